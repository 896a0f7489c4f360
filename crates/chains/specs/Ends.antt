-- What a gap search seeks: "each end position for which a chain exists and none else, with the least sum there" (document 02, #109). Assumes nothing.
use Rattle.std.specs.Prelude.{ℕ, ◌-◌, Bool, ◌&&◌, List, length, leb, ltb}
use Rattle.fit.specs.Rule.{Rule}
use Rattle.fit.specs.Answer.{Sought}
use Rattle.chains.specs.Chains.{near_rule}
use Rattle.chains.specs.Least.{least_sum}

-- a chain of all m points ends at e: the position is one of the recording's, and the least sum there is within gamma
unfoldable pub is_end_by : Rule → ℕ → ℕ → ℕ → List ℕ → ℕ → Bool
is_end_by r m gamma alpha y e = ltb e (length y) && leb (least_sum r gamma alpha y (m - 1) e) gamma

-- the ends under a rule of m points, and those of an ordinary profile
abbrev pub ends_by : Rule → ℕ → ℕ → ℕ → List ℕ → Sought
ends_by r m gamma alpha y = record { count = length y; place = is_end_by r m gamma alpha y; sum = least_sum r gamma alpha y (m - 1) }

abbrev pub ends_of : ℕ → ℕ → ℕ → List ℕ → List ℕ → Sought
ends_of delta gamma alpha x y = ends_by (near_rule delta gamma x) (length x) gamma alpha y
