-- `marks::mark_counts` meets its contract, reading by reading. Assumes nothing.
use Prim.Native.Nat.{ℕ}
use lib.ListN.{get_or}
use lib.Count.{ones}
use Rattle.fit.proofs.Laws.Entries.{Rewritten}
use Rattle.marks.specs.Marks.{readings}
use Rattle.marks.proofs.mark_counts.Given as goal

abbrev pub invariant-loop-a : goal.invariant-loop-a
invariant-loop-a l = Rewritten (λ (k : ℕ). 0) (λ (k : ℕ). ones (get_or l.masks k 0)) readings l.counts l.a
