-- `stops::try_marked` meets its contract: it goes down the marked points, and tries their windows. Assumes nothing.
use mathlib.Core.Path.{◌≡◌, sym, ◌∙◌}
use native.Mathlib.Omega.{arith}
use Rattle.fit.proofs.Laws.Tryings.{trying_start, trying_next, trying_end}
use Rattle.marks.proofs.Laws.Marking.{highest_top, top_all}
use Rattle.stops.proofs.Laws.Probing.{marked_next, marked_none}
use Rattle.noting.proofs.Laws.Handing.{same_still, same_on}
use Rattle.stops.proofs.try_marked.Goals as goal

pub loop-left-init : goal.loop-left-init
loop-left-init c =
    let known = c.requires in
    (c.args.spans.now.m, (omega arith, top_all _ _ known.total_le_tried.2, known.total_le_tried.0, omega arith, λ marks. trying_start _ _ _ _ _ known.total_le_tried.0 (omega arith), same_still _))

pub overflow_sub-at : goal.overflow_sub-at
overflow_sub-at c =
    let inv = c.loop-left.invariant in
    let top = highest_top _ inv.0 _ _ _ inv.1.1 c.take_highest-taken.ensures in
    omega (arith, top.below, inv.1.0)

pub loop-left-preserved : goal.loop-left-preserved
loop-left-preserved c =
    let inv = c.loop-left.invariant in
    let point = c.take_highest-taken.result.point in
    let top = highest_top _ inv.0 _ _ _ inv.1.1 c.take_highest-taken.ensures in
    let counts = c.try_fitting-found.ensures.total_le_tried in (
      point,
      (
        omega (arith, top.below, inv.1.0),
        top.rest,
        counts.0 inv.1.2,
        omega (arith, top.below, inv.1.3, counts.1),
        λ marks.
            trying_next _ _ _ _ (inv.1.4 marks) (marked_next _ _ inv.0 top)
            (c.try_fitting-found.ensures.tried (sym (marks.each point (omega (arith, top.below, inv.1.0))) ∙ top.marked))
            (omega (arith, top.below, inv.1.0)),
        same_on inv.1.5 c.try_fitting-found.ensures.same,
      ),
    )

pub returns-clause-tried : goal.returns-clause-tried
returns-clause-tried c =
    let inv = c.loop-left.invariant in
    let none_left : c.loop-left.left ≡ 0 = omega arith in
    λ marks. trying_end _ _ (inv.1.4 marks) (marked_none _ _ inv.0 (sym inv.1.1 ∙ none_left))
