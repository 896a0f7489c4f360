-- `window::check::check_at` meets its contract: the first i readings suit their points, and the sum is theirs (`Matched`). Assumes nothing.
use Prim.Native.Nat.{◌≤◌}
use Rattle.fit.specs.Spans.{rule_in}
use Rattle.fit.proofs.Laws.Rules.{Matched}
use Rattle.window.proofs.check.check_at.Given as goal

abbrev pub invariant-loop-i : goal.invariant-loop-i
invariant-loop-i l = (l.i ≤ l.spans.m) × Matched (rule_in l.spans.rows) l.recording l.s l.i l.sum 65535
