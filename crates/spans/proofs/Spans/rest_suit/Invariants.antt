-- `spans::rest_suit` meets its contract: the first i readings suit. Assumes nothing.
use mathlib.Core.Bool.{true}
use mathlib.Core.Path.{◌≡◌}
use Prim.Native.Nat.{◌+◌, ◌≤◌}
use lib.ListN.{length}
use Rattle.fit.specs.Refusal.{max_points}
use Rattle.fit.specs.Rule.{all_fit}
use Rattle.fit.specs.Spans.{rule_in}
use Rattle.spans.proofs.Spans.rest_suit.Given as goal

abbrev pub invariant-loop-i : goal.invariant-loop-i
invariant-loop-i l = (l.self.m ≤ max_points) × (l.s + l.self.m ≤ length l.recording) × (l.i ≤ l.self.m) × (all_fit (rule_in l.self.rows).fit l.recording l.s l.i ≡ true)
