-- `score::scores` meets its contract: the scores after i points, point by point. Assumes nothing.
use Prim.Native.Nat.{◌+◌}
use Rattle.fit.specs.Listing.{Entries}
use Rattle.fit.specs.Spans.{rule_in}
use Rattle.score.specs.Score.{score_after}
use Rattle.score.proofs.scores.Given as goal

abbrev pub invariant-loop-i : goal.invariant-loop-i
invariant-loop-i l = Entries (λ j. score_after (rule_in l.spans.rows) l.spans.m l.recording l.i (l.s + j)) 64 l.scores
