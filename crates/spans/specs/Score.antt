-- The score of a window: one number that tells whether it is a place, and if all its points are near, its sum. Assumes nothing.
use Rattle.std.specs.Prelude.{ℕ, min, cond, eqb}
use Rattle.fit.specs.Verdict.{Told}

-- the greatest score; no gamma reaches it
abbrev pub most_score : ℕ
most_score = 65535

-- the score of a window, by what its check answers: the sum where it fits or is over, cut off at the greatest score, and that much where a point
-- is far
unfoldable pub score_in : Told → ℕ
score_in t = cond (eqb t.kind 0) most_score (min t.sum most_score)
