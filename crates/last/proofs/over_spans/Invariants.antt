-- `last::over_spans` meets its contract: it goes along the walk, a window at a time. Assumes nothing.
use Prim.Native.Nat.{◌-◌}
use lib.ListN.{length}
use Rattle.fit.specs.Spans.{rule_in}
use Rattle.fit.specs.Answer.{sought_by}
use Rattle.fit.proofs.Laws.Alongs.{Along}
use Rattle.last.specs.Walk.{walk_in}
use Rattle.last.proofs.Laws.Seeking.{left_in, Stands}
use Rattle.noting.specs.Lists.{lent_in, Same}
use Rattle.last.proofs.over_spans.Given as goal

abbrev pub invariant-loop-q : goal.invariant-loop-q
invariant-loop-q l =
    Stands l.prepared.spans.rows l.prepared.table l.prepared.seen l.prepared.spans.m l.gamma l.recording l.q
    × Along (sought_by (rule_in l.prepared.spans.rows) l.prepared.spans.m l.gamma l.recording) (walk_in l.prepared.spans.rows l.prepared.spans.m l.recording)
    (left_in l.prepared.spans.rows l.prepared.spans.m l.recording l.q) (l.q - (l.prepared.spans.m - 1)) (lent_in l.initial.lists) (lent_in l.lists) l.found
    × Same l.initial.lists l.lists

abbrev pub decreases-loop-q : goal.decreases-loop-q
decreases-loop-q l = length l.recording - l.q
