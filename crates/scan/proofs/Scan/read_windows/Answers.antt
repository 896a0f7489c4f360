-- `scan::Scan::read_windows` meets its contract: it goes along the walk that tries every window, one reading for each.
use Rattle.std.proofs.Common.{refl, eq-eqb}
use Rattle.scan.proofs.Laws.Scanning.{behind_length, behind_at, scanned_start, scanned_short, scanned_more, scanned_end}
use Rattle.noting.proofs.Laws.Handing.{same_still, same_on}
use Rattle.scan.proofs.Scan.read_windows.Goals as goal

pub loop-s-init : goal.loop-s-init
loop-s-init c =
    let lead = c.requires in
    let none = c.default-found.ensures in (
      scanned_start _ _ _ _ _ _ _ _ _ _ _ _ c.args.self.now.scannable refl lead.0 c.last_at-at.ensures.0 c.top_bit-bit.ensures
          (λ i. record { total = none.0 i; tried = none.1.0 i; least = none.1.1 i }) lead.1,
      same_still _,
    )

pub told_sum-sum-requires : goal.told_sum-sum-requires
told_sum-sum-requires c =
    let more = rw (behind_length _ _) at c.loop-s-test.true in
    let turn = rw (behind_at _ _ _ more) at c.read_one.ensures in
    rw c.requires.1.long
    (c.last_at-at.ensures.1, λ e. scanned_short _ _ _ _ _ _ _ _ _ c.loop-s.invariant.0 more turn (eq-eqb _ _ e))

pub loop-s-preserved : goal.loop-s-preserved
loop-s-preserved c =
    let more = rw (behind_length _ _) at c.loop-s-test.true in
    let turn = rw (behind_at _ _ _ more) at c.read_one.ensures in
    (scanned_more _ _ _ _ _ _ _ _ _ c.loop-s.invariant.0 more turn (rw c.requires.1.long at c.told_sum-sum.ensures) c.note-found.ensures.noted, same_on c.loop-s.invariant.1 c.note-found.ensures.same)

pub returns-clause-scans : goal.returns-clause-scans
returns-clause-scans c = (scanned_end _ _ _ _ _ _ _ _ _ c.loop-s.invariant.0 (rw (behind_length _ _) at c.loop-s-test.false)).0
