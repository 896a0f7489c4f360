-- What a place is. Assumes nothing.
use Rattle.std.specs.Prelude.{ℕ, ◌+◌, ◌-◌, ◌*◌, ◌≤◌, ◌<◌, min, Bool, List, length, get_or}
use Rattle.fit.specs.Reading.{lowest, diff, near}
use Rattle.fit.specs.Rule.{Rule, reading_at, sum_cost, is_place_by}

-- the rule of an ordinary profile x: a reading suits a point that it is near, and costs its difference
abbrev pub fit_of : ℕ → List ℕ → ℕ → ℕ → Bool
fit_of d x i a = near d (get_or x i 0) a

abbrev pub cost_of : List ℕ → ℕ → ℕ → ℕ
cost_of x i a = diff (get_or x i 0) a

abbrev pub rule_of : ℕ → List ℕ → Rule
rule_of delta x = record { fit = fit_of delta x; cost = cost_of x }

-- "the sum of the m differences" of the window at s
abbrev pub sum_diff : List ℕ → List ℕ → ℕ → ℕ
sum_diff x y s = sum_cost (cost_of x) y s (length x)

-- "A place is an s whose window has every difference |x[i] - y[s+i-1]| at most delta and the sum of the m differences at most gamma"; "a
-- window holding a 0 is not a place, whatever the tolerances" (#103)
pub record Place (delta gamma : ℕ) (x y : List ℕ) (s : ℕ) : Type 0 where
  pub inside : s + length x ≤ length y
  pub real : (i : ℕ) → i < length x → lowest ≤ reading_at y s i
  pub each : (i : ℕ) → i < length x → diff (get_or x i 0) (reading_at y s i) ≤ delta
  pub within : sum_diff x y s ≤ gamma

-- the same as a test
unfoldable pub is_place : ℕ → ℕ → List ℕ → List ℕ → ℕ → Bool
is_place delta gamma x y s = is_place_by (rule_of delta x) (length x) gamma y s

-- how many windows of m readings a recording of n readings has: n - m + 1, or 0
abbrev pub windows : ℕ → ℕ → ℕ
windows m n = n + 1 - m

-- "d = the smaller of delta and gamma; g = the smaller of gamma and m times d"
abbrev pub d_of : ℕ → ℕ → ℕ
d_of delta gamma = min delta gamma

abbrev pub g_of : ℕ → ℕ → ℕ → ℕ
g_of m delta gamma = min gamma (m * d_of delta gamma)
