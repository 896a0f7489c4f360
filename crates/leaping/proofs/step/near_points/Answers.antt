-- `near_points` meets its contract: the first j of the order are near. Assumes nothing.
use mathlib.Core.Path.{sym, ◌∙◌}
use native.Mathlib.Omega.{arith}
use Rattle.comparing.proofs.Laws.Orders.{led_stop, led_end}
use Rattle.leaping.proofs.Laws.Steps.{compared_at, compared_in}
use Rattle.leaping.proofs.step.near_points.Goals as goal

pub bounds-x-q : goal.bounds-x-q
bounds-x-q c = compared_in _ _ _ _ _ c.requires.holds_order.0 (omega arith) c.from-q.ensures

pub bounds-recording-s : goal.bounds-recording-s
bounds-recording-s c =
    let inside = c.requires.holds_order in
    omega (arith, inside.1, compared_in _ _ _ _ _ inside.0 (omega arith) c.from-q.ensures)

pub returns-then-not-is_near : goal.returns-then-not-is_near
returns-then-not-is_near c =
    let at = compared_at _ _ _ _ _ c.requires.holds_order.0 (omega arith) c.from-q.ensures in
    (led_stop _ _ _ c.loop-j.invariant (sym (rw at at c.is_near.ensures) ∙ c.if-not-is_near.true), omega arith)

pub returns : goal.returns
returns c = (omega (arith, c.loop-j.invariant.left, led_end _ _ _ c.loop-j.invariant (omega arith)), omega arith)
