-- `block::note_sixteen` meets its contract: at once where the least score is above gamma, and else one by one. Assumes nothing.
use mathlib.Core.Path.{refl}
use native.Mathlib.Omega.{arith}
use Rattle.fit.proofs.Laws.Answers.{noted_as}
use Rattle.fit.proofs.Laws.Runs.{running_one, running_end, run_no_place}
use Rattle.block.proofs.Laws.Told.{told_at, told_sum_at, told_none}
use Rattle.noting.proofs.Laws.Handing.{same_on}
use Rattle.block.proofs.note_sixteen.Goals as goal

pub returns-then-gamma-from-clause-tried : goal.returns-then-gamma-from-clause-tried
returns-then-gamma-from-clause-tried c =
    run_no_place _ _ _
    (told_none c.args.scores.now c.args.s c.args.gamma c.args.at _ (omega arith) c.least_of.ensures (omega arith)) c.note_none.ensures

pub loop-j-preserved : goal.loop-j-preserved
loop-j-preserved c =
    let given = c.args in (
      running_one _ _ _ c.loop-j.invariant.0 _ (omega arith) (omega arith)
          (noted_as _ _ _ _ _ _ _ (told_at given.scores.now given.s _ c.loop-j.j _ refl)
          (λ _. told_sum_at given.scores.now given.s given.gamma c.loop-j.j) c.note_score-found.ensures.noted),
      same_on c.loop-j.invariant.1 c.note_score-found.ensures.same,
    )

pub returns-clause-tried : goal.returns-clause-tried
returns-clause-tried c = running_end _ _ _ c.loop-j.invariant.0 (omega arith)
