-- What the tables hold that are built once per search, and what is asked of the profile they are built for. Assumes nothing.
use Rattle.std.specs.Prelude.{ℕ, ◌≤◌, ◌<◌, ◌≡◌, List, length, get_or}
use Rattle.fit.specs.Reading.{lowest}
use Rattle.fit.specs.Refusal.{max_points, max_delta}

-- a table of n entries that holds f 0 to f (m - 1), and zeros beyond them
pub record Holds (f : ℕ → ℕ) (m n : ℕ) (table : List ℕ) : Type 0 where
  pub long : length table ≡ n
  pub at : (i : ℕ) → i < m → get_or table i 0 ≡ f i
  pub beyond : (i : ℕ) → m ≤ i → get_or table i 0 ≡ 0

-- what the code of the jumps asks of an accepted profile and d
pub record Usable (d : ℕ) (x : List ℕ) : Type 0 where
  pub some : 1 ≤ length x
  pub few : length x ≤ max_points
  pub small : d ≤ max_delta
  pub real : (i : ℕ) → i < length x → lowest ≤ get_or x i 0
