-- `near_points` meets its contract: the first j of the order are near. Assumes nothing.
use Rattle.comparing.proofs.Laws.Orders.{Led}
use Rattle.leaping.specs.Walk.{near_at}
use Rattle.leaping.proofs.step.near_points.Given as goal

abbrev pub invariant-loop-j : goal.invariant-loop-j
invariant-loop-j l = Led l.x.d l.x.points.now (near_at l.x.d l.x.points.now l.recording l.s) l.j
