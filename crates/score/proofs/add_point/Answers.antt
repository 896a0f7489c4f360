-- `score::add_point` meets its contract: the windows before j have point i in their scores. Assumes nothing.
use native.Mathlib.Omega.{arith}
use Rattle.fit.proofs.Laws.Entries.{rewritten_next}
use Rattle.score.proofs.Laws.Scores.{added_score}
use Rattle.score.proofs.add_point.Goals as goal

pub loop-j-preserved : goal.loop-j-preserved
loop-j-preserved c =
    let inv = c.loop-j.invariant in
    let here = c.loop-j-test.true in
    rewritten_next _ _ _ _ _ here inv (added_score _ _ _ _ _ _ _ (inv.left _ (omega arith) here) c.added.ensures)
