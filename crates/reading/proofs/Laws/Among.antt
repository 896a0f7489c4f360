-- Laws of readings that follow each other: one comparison tells whether a reading is among them. Assumes nothing.
use Rattle.std.proofs.Common.{◌≡◌, ℕ, ◌+◌, ◌-◌, ◌%◌, ◌≤◌, ◌&&◌, leb, arith, le-leb, leb-true}
use Rattle.fit.specs.Reading.{highest}
use Rattle.fit.specs.Spans.{span_fits}
use Rattle.fit.proofs.Laws.Bools.{and_left, and_right, and_both, same_test}

-- where they are bytes: what lies below the least wraps to above them all
pub among_fits : (least more a : ℕ) → least + more ≤ highest → a ≤ highest → leb ((a + 256 - least) % 256) more ≡ span_fits least (least + more) a
among_fits least more a small h =
    same_test (leb ((a + 256 - least) % 256) more) (leb least a && leb a (least + more))
    (λ t. let w = leb-true ((a + 256 - least) % 256) more t in
    and_both (leb least a) (leb a (least + more)) (le-leb least a (omega (arith, w))) (le-leb a (least + more) (omega (arith, w))))
    (λ t. let low = leb-true least a (and_left (leb least a) (leb a (least + more)) t) in
    let high = leb-true a (least + more) (and_right (leb least a) (leb a (least + more)) t) in
    le-leb ((a + 256 - least) % 256) more (omega (arith, low, high)))
