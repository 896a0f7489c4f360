-- `marks::sieve` meets its contract, bit by bit. Assumes nothing.
use native.Mathlib.Omega.{arith}
use Rattle.marks.proofs.Laws.Bits.{one_shifted}
use Rattle.marks.proofs.Laws.Sieving.{from_before, from_after, sieve_marks}
use Rattle.marks.proofs.sieve.Goals as goal

pub returns : goal.returns
returns c =
    let k = c.args.k in
    let m = c.args.m in
    rw (one_shifted k (omega arith))
    (sieve_marks c.args.here c.args.before c.args.after k m _ _ c.ranges.here.fits
    (λ i h. from_before c.args.before k i h) (λ i h. from_after c.args.after k m i (omega arith) h))
