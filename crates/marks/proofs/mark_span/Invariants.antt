-- `marks::mark_span` meets its contract: the readings from low to a have point i marked. Assumes nothing.
use Prim.Native.Nat.{ℕ}
use lib.ListN.{get_or}
use Rattle.fit.specs.Spans.{span_fits}
use Rattle.fit.proofs.Laws.Entries.{Rewritten}
use Rattle.marks.specs.Marks.{readings, with_mark}
use Rattle.marks.proofs.mark_span.Given as goal

abbrev pub invariant-loop-a : goal.invariant-loop-a
invariant-loop-a l =
    Rewritten (λ (k : ℕ). get_or l.initial.masks k 0) (λ (k : ℕ). with_mark (span_fits l.low l.high k) l.i (get_or l.initial.masks k 0)) readings l.masks l.a
