-- `score::begun_all` meets its contract: one window after the other, by its mark. Assumes nothing.
use mathlib.Core.Path.{refl}
use Rattle.fit.proofs.Laws.Entries.{entries_same, rewritten_none}
use Rattle.score.proofs.begun_all.Goals as goal

pub loop-j-init : goal.loop-j-init
loop-j-init c = rewritten_none _ _ _ (entries_same (λ k. 0) 64 0 (λ j h. refl))
