-- `marks::mark_span` meets its contract: the readings from low to a have point i marked. Assumes nothing.
use mathlib.Core.Path.{ap}
use native.Mathlib.Omega.{arith}
use lib.ListN.{get_or}
use lib.Bits.{bit_or}
use Rattle.marks.proofs.Laws.Bits.{one_shifted}
use Rattle.marks.proofs.Laws.Marking.{span_start, span_next}
use Rattle.marks.proofs.mark_span.Goals as goal

pub loop-a-init : goal.loop-a-init
loop-a-init c =
    let given = c.args in
    rw c.from-a.ensures (span_start given.masks.now given.low given.high given.i (omega arith))

pub loop-a-preserved : goal.loop-a-preserved
loop-a-preserved c =
    let given = c.args in
    span_next given.masks.now given.low given.high given.i _ _ (omega arith) (omega arith) c.loop-a.invariant
    (ap (bit_or (get_or c.loop-a.masks c.loop-a.a 0)) (one_shifted _ c.requires))
