-- `spans::sum_at` meets its contract: the total is that of the first i readings. Assumes nothing.
use mathlib.Core.Path.{◌≡◌}
use Prim.Native.Nat.{◌+◌, ◌*◌, ◌≤◌}
use lib.ListN.{length}
use Rattle.fit.specs.Refusal.{max_points}
use Rattle.fit.specs.Rule.{sum_cost}
use Rattle.fit.specs.Spans.{rule_in}
use Rattle.spans.proofs.Spans.sum_at.Given as goal

abbrev pub invariant-loop-i : goal.invariant-loop-i
invariant-loop-i l = (l.self.m ≤ max_points) × (l.s + l.self.m ≤ length l.recording) × (l.i ≤ l.self.m) × (l.total ≤ l.i * 65535) × (l.total ≡ sum_cost (rule_in l.self.rows).cost l.recording l.s l.i)
