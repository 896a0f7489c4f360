-- `skip::try_probed` meets its contract: it goes down the points, and tries the windows that the walk has for the probe. Assumes nothing.
use Prim.Native.Nat.{◌+◌, ◌-◌}
use Rattle.fit.specs.Spans.{rule_in}
use Rattle.fit.specs.Answer.{sought_by}
use Rattle.skip.specs.Walk.{probed}
use Rattle.fit.proofs.Laws.Tryings.{Trying}
use Rattle.noting.specs.Lists.{lent_in, Same}
use Rattle.skip.proofs.try_probed.Given as goal

abbrev pub invariant-loop-i : goal.invariant-loop-i
invariant-loop-i l =
    Trying (sought_by (rule_in l.spans.rows) l.spans.m l.gamma l.recording) (probed (rule_in l.spans.rows).fit l.spans.m l.recording l.q l.spans.m)
    (probed (rule_in l.spans.rows).fit l.spans.m l.recording l.q l.i) (l.q + 1 - l.i) (lent_in l.initial.lists) (lent_in l.lists) l.initial.found l.found
    × Same l.initial.lists l.lists
