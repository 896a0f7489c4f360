-- `ordinary::spans_of` meets its contract: after i points the spans of the first i of them are laid. Assumes nothing.
use Rattle.std.proofs.Common.{◌≡◌, length, take}
use Rattle.fit.specs.Refusal.{max_points}
use Rattle.fit.specs.Spans.{spans_of}
use Rattle.ordinary.proofs.spans_of.Given as goal

abbrev pub invariant-loop-i : goal.invariant-loop-i
invariant-loop-i l = (length l.points ≡ max_points) × (l.rows ≡ spans_of l.d (take l.i l.points))
