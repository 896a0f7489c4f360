-- `plain::one_by_one` meets its contract: it tries one window after the other. Assumes nothing.
use Prim.Native.Nat.{◌-◌}
use lib.ListN.{length}
use Rattle.fit.specs.Place.{windows}
use Rattle.fit.specs.Spans.{rule_in}
use Rattle.fit.specs.Answer.{sought_by}
use Rattle.fit.specs.Trying.{run}
use Rattle.fit.proofs.Laws.Tryings.{Trying}
use Rattle.noting.specs.Lists.{lent_in, Same}
use Rattle.plain.proofs.one_by_one.Given as goal

abbrev pub invariant-loop-s : goal.invariant-loop-s
invariant-loop-s l =
    Trying (sought_by (rule_in l.spans.rows) l.spans.m l.gamma l.recording) (run l.from (windows l.spans.m (length l.recording) - l.from)) (run l.s (l.count - l.s)) l.s (lent_in l.initial.lists) (lent_in l.lists)
    l.initial.found l.found
    × Same l.initial.lists l.lists
