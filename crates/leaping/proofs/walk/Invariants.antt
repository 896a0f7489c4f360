-- `leaping::walk` meets its contract: it goes along the walk, told by where the reading after the window stands. Assumes nothing.
use Prim.Native.Nat.{◌-◌, ◌≤◌}
use lib.ListN.{length}
use Rattle.fit.proofs.Laws.Alongs.{Along}
use Rattle.fit.specs.Answer.{sought_by}
use Rattle.fit.specs.Spans.{rule_in}
use Rattle.leaping.proofs.Laws.Prepared.{Prepared}
use Rattle.leaping.proofs.Laws.Walks.{left}
use Rattle.leaping.specs.Walk.{maximal_walk}
use Rattle.noting.specs.Lists.{lent_in, Same}
use Rattle.leaping.proofs.walk.Given as goal

abbrev pub invariant-loop-e : goal.invariant-loop-e
invariant-loop-e l =
    Prepared l.gamma l.points.points.now l.recording l.points.d l.spans.rows l.next l.compared.order l.compared.jumps l.full l.first l.least l.more l.leaps × (length l.points.points.now ≤ l.e)
    × Along (sought_by (rule_in l.spans.rows) (length l.points.points.now) l.gamma l.recording) (maximal_walk l.points.d l.points.points.now l.recording) (left l.points.d l.points.points.now l.recording (l.e - length l.points.points.now)) (l.e - length l.points.points.now)
    (lent_in l.initial.lists) (lent_in l.lists) l.found
    × Same l.initial.lists l.lists

abbrev pub decreases-loop-e : goal.decreases-loop-e
decreases-loop-e l = length l.recording - l.e
