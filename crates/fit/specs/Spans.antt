-- A profile as numbers, four for each point, so that one code serves every kind of profile. Assumes nothing.
-- They lie in four rows of 64 numbers, one row behind the other, so that code asks many points at once. For point i, readings from the number in the
-- first row to that in the second suit it, and those from the third to the fourth cost nothing; any other costs its distance from these.
use Rattle.std.specs.Prelude.{ℕ, ◌+◌, ◌-◌, ◌*◌, ◌≤◌, max, Bool, ◌&&◌, List, ◌++◌, map, get_or, replicate, leb}
use Rattle.fit.specs.Reading.{lowest}
use Rattle.fit.specs.Rule.{Rule}
use Rattle.fit.specs.Listing.{overlay}
use Rattle.fit.specs.Refusal.{max_points, max_gamma, max_readings}

abbrev pub span_fits : ℕ → ℕ → ℕ → Bool
span_fits low high a = leb low a && leb a high

abbrev pub span_cost : ℕ → ℕ → ℕ → ℕ
span_cost from to a = (from - a) + (a - to)

-- the rule that the numbers say
abbrev pub rule_in : List ℕ → Rule
rule_in spans = record {
  fit = λ i a. span_fits (get_or spans i 0) (get_or spans (max_points + i) 0) a;
  cost = λ i a. span_cost (get_or spans (2 * max_points + i) 0) (get_or spans (3 * max_points + i) 0) a;
}

-- a row: what is said of each point, whatever a point is, and zeros behind the last
abbrev pub row : {A : Type 0} → (A → ℕ) → List A → List ℕ
row say x = overlay (map say x) (replicate max_points 0)

abbrev pub rows : {A : Type 0} → (A → ℕ) → (A → ℕ) → (A → ℕ) → (A → ℕ) → List A → List ℕ
rows low high from to x = row low x ++ (row high x ++ (row from x ++ row to x))

-- the numbers of an ordinary profile: the readings that are near point p by d suit it, from p - d, or from the lowest, to p + d; and p itself
-- costs nothing
abbrev pub spans_of : ℕ → List ℕ → List ℕ
spans_of d x = rows (λ p. max lowest (p - d)) (λ p. p + d) (λ p. p) (λ p. p) x

-- what a search over spans asks of its input: 1 to 64 points, and within the limits otherwise
pub record Ready (m gamma n : ℕ) : Type 0 where
  pub some : 1 ≤ m
  pub few : m ≤ max_points
  pub gamma_small : gamma ≤ max_gamma
  pub short : n ≤ max_readings
