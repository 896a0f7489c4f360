-- `skip::over_spans` meets its contract: it goes along the walk, passing the probes without a window worth a look. Assumes nothing.
use Prim.Native.Nat.{◌+◌, ◌-◌, ◌≤◌}
use lib.ListN.{length}
use Rattle.fit.specs.Spans.{rule_in}
use Rattle.skip.proofs.Laws.Searching.{Arrived}
use Rattle.noting.specs.Lists.{lent_in, Same}
use Rattle.skip.proofs.over_spans.Given as goal

abbrev pub invariant-stops : goal.invariant-stops
invariant-stops l =
    (l.spans.m ≤ l.q + 1) × (l.q ≤ length l.recording)
    × Arrived (rule_in l.spans.rows) l.spans.m l.gamma l.recording (lent_in l.initial.lists) l.q (lent_in l.lists) l.found
    × Same l.initial.lists l.lists

abbrev pub decreases-stops : goal.decreases-stops
decreases-stops l = length l.recording - l.q
