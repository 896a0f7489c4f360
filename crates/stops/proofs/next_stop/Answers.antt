-- `stops::next_stop` meets its contract: the probes before y[q] are passed. Assumes nothing.
use mathlib.Core.Path.{◌≡◌, refl}
use native.Mathlib.Omega.{arith}
use Rattle.stops.specs.Passing.Passed.{none}
use Rattle.stops.proofs.Laws.Probing.{probe_count}
use Rattle.stops.proofs.Laws.Passings.{passed_more}
use Rattle.stops.proofs.next_stop.Goals as goal

pub loop-q-init : goal.loop-q-init
loop-q-init c = (omega arith, omega arith, omega arith, λ fit tables. none)

pub returns-then-mask-ne0 : goal.returns-then-mask-ne0
returns-then-mask-ne0 c =
    let inv = c.loop-q.invariant in record {
      by_index = λ fit tables.
          (inv.3 fit tables, record { inside = λ h. (c.worth_a_look-mask.ensures fit tables.marks, omega arith); outside = λ h. absurd (omega arith) });
      from_le_q = (inv.0, inv.1, inv.2);
      stopped = (omega arith, omega arith);
    }

pub loop-q-preserved : goal.loop-q-preserved
loop-q-preserved c =
    let inv = c.loop-q.invariant in
    let counted = c.count_at-windows.ensures in
    let given = c.args in
    let none-worth : c.worth_a_look-mask.result ≡ 0 = omega arith in (
      omega arith,
      omega arith,
      omega (arith, inv.2, counted.2),
      λ fit tables.
          passed_more fit _ _ (omega arith) (rw none-worth at (c.worth_a_look-mask.ensures fit tables.marks))
          (probe_count fit given.near.now.m given.recording.now _ _ _ _ tables (counted.0, counted.1)) (inv.3 fit tables),
    )

pub returns : goal.returns
returns c =
    let inv = c.loop-q.invariant in record {
      by_index = (λ fit tables. (inv.3 fit tables, record { inside = λ h. absurd (omega arith); outside = λ h. refl }));
      from_le_q = (inv.0, inv.1, inv.2);
      stopped = omega arith;
    }
