-- `skip::point_by_point` meets its contract: it goes along the walk, probe by probe. Assumes nothing.
use Prim.Native.Nat.{◌+◌, ◌≤◌}
use Rattle.fit.specs.Spans.{rule_in}
use Rattle.skip.proofs.Laws.Searching.{Arrived}
use Rattle.noting.specs.Lists.{lent_in, Same}
use Rattle.skip.proofs.point_by_point.Given as goal

abbrev pub invariant-loop-at : goal.invariant-loop-at
invariant-loop-at l =
    (l.spans.m ≤ l.at + 1) × Arrived (rule_in l.spans.rows) l.spans.m l.gamma l.recording (lent_in l.initial.lists) l.at (lent_in l.lists) l.found
    × Same l.initial.lists l.lists
