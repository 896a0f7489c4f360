-- `Prepared::tried_from` meets its contract: the jumps lead from where it stands to where they led from the start. Assumes nothing.
use mathlib.Core.Path.{sym, ◌∙◌}
use native.Mathlib.Omega.{arith}
use Rattle.last.proofs.Laws.Seeking.{seek_end, seek_here, seek_on}
use Rattle.last.proofs.walk.Prepared.tried_from.Goals as goal

pub returns-then-jump-eq0 : goal.returns-then-jump-eq0
returns-then-jump-eq0 c =
    seek_here _ _ _ (sym c.jump_at-jump.ensures.0 ∙ c.if-jump-eq0.true) ∙ sym c.loop-q.invariant

pub loop-q-preserved : goal.loop-q-preserved
loop-q-preserved c =
    c.loop-q.invariant ∙ seek_on _ _ _ _ c.loop-q-test.true c.jump_at-jump.ensures.0 c.if-jump-eq0.false

pub returns : goal.returns
returns c = seek_end _ _ _ (omega arith) ∙ sym c.loop-q.invariant
