-- `noting::lower` meets its contract: the first sum, or the smaller of two. Assumes nothing.
use Rattle.std.proofs.Common.{arith, ◌∙◌}
use Rattle.fit.proofs.Laws.Sums.{lowered_first, lowered_is}
use Rattle.noting.proofs.lower.Goals as goal

pub returns-then-count-eq0 : goal.returns-then-count-eq0
returns-then-count-eq0 c = c.from-more.ensures ∙ lowered_first _ _ _ c.if-count-eq0.true

pub returns-else-count-eq0 : goal.returns-else-count-eq0
returns-else-count-eq0 c = lowered_is _ _ _ c.if-count-eq0.false (omega arith)
