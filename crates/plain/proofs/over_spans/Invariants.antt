-- `plain::over_spans` meets its contract: it tries every window, by blocks, and then one by one. Assumes nothing.
use Prim.Native.Nat.{◌-◌, ◌*◌}
use lib.ListN.{length}
use Rattle.fit.specs.Place.{windows}
use Rattle.fit.specs.Spans.{rule_in}
use Rattle.fit.specs.Answer.{sought_by}
use Rattle.fit.specs.Trying.{run}
use Rattle.fit.proofs.Laws.Tryings.{Trying}
use Rattle.noting.specs.Lists.{lent_in, Same}
use Rattle.plain.proofs.over_spans.Given as goal

abbrev pub invariant-loop-b : goal.invariant-loop-b
invariant-loop-b l =
    Trying (sought_by (rule_in l.spans.rows) l.spans.m l.gamma l.recording) (run 0 (windows l.spans.m (length l.recording))) (run (64 * l.b) (windows l.spans.m (length l.recording) - 64 * l.b)) (64 * l.b) (lent_in l.initial.lists)
    (lent_in l.lists) l.initial.found l.found
    × Same l.initial.lists l.lists
