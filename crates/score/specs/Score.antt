-- The scores of 64 windows. Assumes nothing.
use Rattle.std.specs.Prelude.{ℕ, ◌+◌, min, cond, List}
use Rattle.fit.specs.Rule.{Rule, all_fit, sum_cost}
use Rattle.fit.specs.Listing.{Entries}
use Rattle.fit.specs.Verdict.{verdict_by}
use Rattle.spans.specs.Score.{most_score, score_in}

-- the scores of the 64 windows from s on, whatever gamma is: no score depends on it
abbrev pub Scored : Rule → ℕ → List ℕ → ℕ → List ℕ → Type 0
Scored r m y s scores = (gamma : ℕ) → Entries (λ j. score_in (verdict_by r m gamma y (s + j))) 64 scores

-- a score in the making, after k of the m points: what these add up to, cut off at the greatest score; and that much where any of the m is far
abbrev pub score_after : Rule → ℕ → List ℕ → ℕ → ℕ → ℕ
score_after r m y k s = cond (all_fit r.fit y s m) (min (sum_cost r.cost y s k) most_score) most_score
