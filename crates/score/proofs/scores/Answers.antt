-- `score::scores` meets its contract: the scores after i points, point by point. Assumes nothing.
use native.Mathlib.Omega.{arith}
use Rattle.score.proofs.Laws.Scores.{scores_begun, scores_all}
use Rattle.score.proofs.scores.Goals as goal

pub loop-i-init : goal.loop-i-init
loop-i-init c = scores_begun _ _ _ _ c.requires.entries c.begun_all-scores.ensures

pub returns : goal.returns
returns c = scores_all _ _ _ _ _ (omega arith) c.loop-i-test.false c.loop-i.invariant
