-- `block::note_block` meets its contract: at once where the least score is above gamma. Assumes nothing.
use native.Mathlib.Omega.{arith}
use Rattle.fit.proofs.Laws.Runs.{run_no_place}
use Rattle.block.proofs.Laws.Told.{told_none_all}
use Rattle.block.proofs.note_block.Goals as goal

pub returns-then-gamma-from-clause-tried : goal.returns-then-gamma-from-clause-tried
returns-then-gamma-from-clause-tried c =
    run_no_place _ _ _ (λ j h. told_none_all c.args.scores.now c.args.s c.args.gamma _ c.least_of.ensures (omega arith) j (omega arith)) c.note_none.ensures
