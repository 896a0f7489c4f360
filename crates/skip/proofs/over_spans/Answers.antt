-- `skip::over_spans` meets its contract: it goes along the walk, passing the probes without a window worth a look. Assumes nothing.
use native.Mathlib.Omega.{arith}
use Rattle.std.proofs.Common.{rules}
use Rattle.fit.proofs.Laws.Alongs.{along_start, along_same}
use Rattle.skip.proofs.Laws.Walks.{walk_start, along_probe}
use Rattle.skip.proofs.Laws.Searching.{stop_along, settle_along, walk_answer}
use Rattle.noting.proofs.Laws.Handing.{same_still, same_on}
use Rattle.skip.proofs.over_spans.Goals as goal

pub stops-init : goal.stops-init
stops-init c = (omega arith, omega arith, along_same (walk_start _ _ _ (omega arith)) (along_start _ _ _ _ (search rules)), same_still _)

pub settle-found-requires-clause-total_le_tried : goal.settle-found-requires-clause-total_le_tried
settle-found-requires-clause-total_le_tried c =
    let inv = c.stops.invariant in
    let near = c.of-near.ensures in
    let stop = c.next_stop-stop.ensures in
    let at = rw c.in-Some.is at (stop_along _ _ _ _ _ _ _ _ _ _ _ c.requires.some inv.0 near.points near.masks near.counts stop.by_index c.note_none-found.ensures inv.2) in
    let inside = rw c.in-Some.is at stop.stopped in
    (at.0.order, omega (arith, at.0.room, inside, near.points), (at.1.inside (omega (arith, inside, near.points))).0.bound)

pub stops-preserved : goal.stops-preserved
stops-preserved c =
    let inv = c.stops.invariant in
    let near = c.of-near.ensures in
    let stop = c.next_stop-stop.ensures in
    let at = rw c.in-Some.is at (stop_along _ _ _ _ _ _ _ _ _ _ _ c.requires.some inv.0 near.points near.masks near.counts stop.by_index c.note_none-found.ensures inv.2) in
    let inside = rw c.in-Some.is at stop.stopped in (
      omega arith,
      omega (arith, inside, near.points),
      settle_along _ _ _ _ c.next_stop-stop.result.q c.requires.some (omega (arith, stop.from_le_q)) (omega (arith, inside, near.points)) at.0
          (c.settle-found.ensures.tried (record { marks = near.masks; counted = near.counts }) (at.1.inside (omega (arith, inside, near.points))).0),
      same_on inv.3 c.settle-found.ensures.same,
    )

pub try_probed-requires-clause-total_le_tried : goal.try_probed-requires-clause-total_le_tried
try_probed-requires-clause-total_le_tried c =
    let inv = c.stops.invariant in
    let near = c.of-near.ensures in
    let stop = c.next_stop-stop.ensures in
    let at = stop_along _ _ _ _ _ _ _ _ _ _ _ c.requires.some inv.0 near.points near.masks near.counts stop.by_index c.note_none-found.ensures inv.2 in
    (at.0.order, omega (arith, at.0.room, stop.from_le_q))

pub returns-then-q-recording-clause-answer : goal.returns-then-q-recording-clause-answer
returns-then-q-recording-clause-answer c =
    let inv = c.stops.invariant in
    let near = c.of-near.ensures in
    let stop = c.next_stop-stop.ensures in
    let at = stop_along _ _ _ _ _ _ _ _ _ _ _ c.requires.some inv.0 near.points near.masks near.counts stop.by_index c.note_none-found.ensures inv.2 in
    let outside = rw c.in_default.is at stop.stopped in
    walk_answer _ _ _ _ _ c.requires.some (omega (arith, outside, near.points))
    (along_probe _ _ _ _ _ c.requires.some (omega (arith, stop.from_le_q)) (omega arith) at.0 c.try_probed.ensures.tried)

pub returns-clause-answer : goal.returns-clause-answer
returns-clause-answer c =
    let inv = c.stops.invariant in
    let near = c.of-near.ensures in
    let at = stop_along _ _ _ _ _ _ _ _ _ _ _ c.requires.some inv.0 near.points near.masks near.counts c.next_stop-stop.ensures.by_index c.note_none-found.ensures inv.2 in
    walk_answer _ _ _ _ _ c.requires.some (omega arith) at.0
