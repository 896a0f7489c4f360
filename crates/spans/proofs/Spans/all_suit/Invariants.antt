-- `spans::all_suit` meets its contract: the first i readings suit. Assumes nothing.
use mathlib.Core.Bool.{true}
use mathlib.Core.Path.{◌≡◌}
use Prim.Native.Nat.{◌*◌, ◌≤◌}
use Rattle.fit.specs.Rule.{all_fit}
use Rattle.fit.specs.Spans.{rule_in}
use Rattle.spans.proofs.Spans.all_suit.Given as goal

abbrev pub invariant-loop-k : goal.invariant-loop-k
invariant-loop-k l = (8 * l.k ≤ l.self.m) × (all_fit (rule_in l.self.rows).fit l.recording l.s (8 * l.k) ≡ true)
