-- `block::try_block` meets its contract: by the scores, or all at once where no window fits. Assumes nothing.
use mathlib.Core.Path.{sym}
use Rattle.fit.proofs.Laws.Runs.{run_same, run_no_place}
use Rattle.sieve.proofs.Laws.Passes.{no_place}
use Rattle.block.proofs.Laws.Told.{told_places, told_sums}
use Rattle.block.proofs.try_block.Goals as goal

pub returns-in_default-clause-tried : goal.returns-in_default-clause-tried
returns-in_default-clause-tried c = run_no_place _ _ _ (no_place _ _ _ _ _ (sym c.in_default.ensures.1)) c.note_none.ensures

pub returns-clause-tried : goal.returns-clause-tried
returns-clause-tried c =
    let known = c.requires in
    let told = c.scores-scores.ensures _ in
    run_same _ _ _ _ (told_places _ _ _ _ _ told known.ready.1 known.ready.0.gamma_small) (told_sums _ _ _ _ _ told known.ready.1 known.ready.0.gamma_small)
    c.note_block.ensures.tried
