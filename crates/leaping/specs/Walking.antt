-- What the walk is handed. Assumes nothing.
use Rattle.std.specs.Prelude.{ℕ, ◌≤◌, List, ◌≡◌, length}
use Rattle.fit.specs.Refusal.{max_points, Accepted}
use Rattle.fit.specs.Spans.{rule_in, spans_of}
use Rattle.jumps.specs.Jumps.{next_jump, mismatch_jump}
use Rattle.tables.specs.Holding.{Holds}
use Rattle.comparing.specs.Writing.{HoldsOrder}

-- points near by d, which is at most gamma; their spans, the next-reading jumps of all readings, the compare order, and the mismatch jumps
pub record Walkable (d gamma : ℕ) (x y spans next order jumps : List ℕ) : Type 0 where
  pub ok : Accepted d gamma x y
  pub small : d ≤ gamma
  pub made : spans ≡ spans_of d x
  pub nexts : Holds (next_jump (rule_in spans).fit (length x)) 256 256 next
  pub orders : HoldsOrder d x order
  pub mismatches : Holds (mismatch_jump d x) (length x) max_points jumps
