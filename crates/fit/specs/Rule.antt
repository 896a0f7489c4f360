-- What a profile asks of a window, said once for every kind of point. Assumes nothing.
use Rattle.std.specs.Prelude.{ℕ, zero, suc, ◌+◌, ◌<◌, Bool, true, ◌&&◌, List, ◌≡◌, length, get_or, leb}

-- a rule: whether reading a suits point i, and what it adds to the sum there
pub record Rule : Type 0 where
  pub fit : ℕ → ℕ → Bool
  pub cost : ℕ → ℕ → ℕ

-- "A window at s is y[s]..y[s+m-1]": its reading at point i
abbrev pub reading_at : List ℕ → ℕ → ℕ → ℕ
reading_at y s i = get_or y (s + i) 0

-- the first k readings of the window at s suit their points
unfoldable pub all_fit : (ℕ → ℕ → Bool) → List ℕ → ℕ → ℕ → Bool
all_fit fit y s zero = true
all_fit fit y s (suc k) = all_fit fit y s k && fit k (reading_at y s k)

-- what the first k readings of the window at s add up to
unfoldable pub sum_cost : (ℕ → ℕ → ℕ) → List ℕ → ℕ → ℕ → ℕ
sum_cost cost y s zero = 0
sum_cost cost y s (suc k) = sum_cost cost y s k + cost k (reading_at y s k)

-- the test for a place: s + m is at most n, each of the m readings suits its point, and their sum is at most gamma
unfoldable pub is_place_by : Rule → ℕ → ℕ → List ℕ → ℕ → Bool
is_place_by r m gamma y s =
    leb (s + m) (length y) && (all_fit r.fit y s m && leb (sum_cost r.cost y s m) gamma)

-- reading a may stand at point i of a place: it suits the point at a cost of at most gamma
abbrev pub near_by : Rule → ℕ → ℕ → ℕ → Bool
near_by r gamma i a = r.fit i a && leb (r.cost i a) gamma

-- the rule cut at gamma, so that what suits a point is just what may stand there: no place is lost, since each cost of a place is at most its sum
abbrev pub cut_at : ℕ → Rule → Rule
cut_at gamma r = record { fit = near_by r gamma; cost = r.cost }

-- two rules ask the same of the first m points: the same readings suit, and where one suits it costs the same
pub record SameRule (m : ℕ) (r r' : Rule) : Type 0 where
  pub same_fit : (i a : ℕ) → i < m → r.fit i a ≡ r'.fit i a
  pub same_cost : (i a : ℕ) → i < m → r.fit i a ≡ true → r.cost i a ≡ r'.cost i a
