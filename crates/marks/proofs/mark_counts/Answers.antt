-- `marks::mark_counts` meets its contract, reading by reading. Assumes nothing.
use mathlib.Core.Path.{refl}
use Prim.Native.Nat.{ℕ}
use Rattle.fit.proofs.Laws.Entries.{entries_same, rewritten_none}
use Rattle.marks.specs.Marks.{readings}
use Rattle.marks.proofs.mark_counts.Goals as goal

pub loop-a-init : goal.loop-a-init
loop-a-init c = rewritten_none _ _ readings (entries_same (λ (k : ℕ). 0) readings 0 (λ k h. refl))
