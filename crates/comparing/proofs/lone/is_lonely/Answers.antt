-- `is_lonely` meets its contract: the two ends of what is near the one point decide. Assumes nothing.
use mathlib.Core.Path.{ap, ◌∙◌}
use mathlib.Core.Bool.{not}
use native.Mathlib.Omega.{arith}
use Rattle.jumps.proofs.Laws.Nears.{low_decides, high_decides}
use Rattle.comparing.proofs.lone.is_lonely.Goals as goal

pub returns-then-not-is_near : goal.returns-then-not-is_near
returns-then-not-is_near c =
    ap not c.if-not-is_near.true ∙ low_decides _ _ _ _ (omega arith) (omega arith) c.least_near.ensures c.is_near.ensures c.if-not-is_near.true

pub returns-else-not-is_near : goal.returns-else-not-is_near
returns-else-not-is_near c =
    high_decides _ _ _ _ (omega arith) (omega arith) c.least_near.ensures c.is_near.ensures _ c.if-not-is_near.false
    c.most_near.ensures c.is_near-else-not-is_near.ensures
