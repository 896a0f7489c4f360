-- `spans::eight_suit` meets its contract: so far the first i + j readings suit, or not all of them. Assumes nothing.
use mathlib.Core.Path.{◌≡◌}
use Prim.Native.Nat.{◌+◌, ◌≤◌}
use lib.ListN.{length}
use Rattle.fit.specs.Refusal.{max_points}
use Rattle.fit.specs.Rule.{all_fit}
use Rattle.fit.specs.Spans.{rule_in}
use Rattle.spans.proofs.Spans.eight_suit.Given as goal

abbrev pub invariant-loop-j : goal.invariant-loop-j
invariant-loop-j l = (l.i + 8 ≤ max_points) × (l.s + (l.i + 8) ≤ length l.recording) × (l.j ≤ 8) × (l.all ≡ all_fit (rule_in l.self.rows).fit l.recording l.s (l.i + l.j))
