-- `first::over_spans` meets its contract: it goes along last's walk as long as no window is a place. Assumes nothing.
use Prim.Native.Nat.{◌-◌}
use lib.ListN.{length}
use Rattle.fit.specs.Rule.{is_place_by}
use Rattle.fit.specs.Spans.{rule_in}
use Rattle.last.specs.Walk.{walk_in}
use Rattle.last.proofs.Laws.Seeking.{left_in, Stands}
use Rattle.first.proofs.Laws.Looking.{Looked}
use Rattle.first.proofs.over_spans.Given as goal

abbrev pub invariant-loop-q : goal.invariant-loop-q
invariant-loop-q l =
    Stands l.prepared.spans.rows l.prepared.table l.prepared.seen l.prepared.spans.m l.gamma l.recording l.q
    × Looked (is_place_by (rule_in l.prepared.spans.rows) l.prepared.spans.m l.gamma l.recording) (walk_in l.prepared.spans.rows l.prepared.spans.m l.recording) (left_in l.prepared.spans.rows l.prepared.spans.m l.recording l.q) (l.q - (l.prepared.spans.m - 1)) l.tried

abbrev pub decreases-loop-q : goal.decreases-loop-q
decreases-loop-q l = length l.recording - l.q
