-- How probes are passed without looking at a window, and where the search stops. `near i a` says that reading a is near point i of m. Assumes
-- nothing.
use Rattle.std.specs.Prelude.{ℕ, zero, suc, ◌+◌, ◌-◌, ◌≤◌, ◌<◌, ◌≡◌, Bool, cond, List, [], ◌∷◌, length, get_or}
use Rattle.std.specs.Int.Count.{ones}
use Rattle.fit.specs.Listing.{Entries}
use Rattle.marks.specs.Marks.{readings, Marks, MarkTable}
use Rattle.probe.specs.Around.{around_suits}

-- the two tables of a search: for each reading the points that it suits, and how many these are
pub record Tables (m : ℕ) (near : ℕ → ℕ → Bool) (table counts : List ℕ) : Type 0 where
  pub marks : MarkTable m near table
  pub counted : Entries (λ (a : ℕ). ones (get_or table a 0)) readings counts

-- of the windows that put one of the first k points at y[q], those whose point passes a test, the highest point first
unfoldable pub windows_at : (ℕ → Bool) → ℕ → ℕ → List ℕ
windows_at test q zero = []
windows_at test q (suc i) = cond (test i) ((q - i) ∷ windows_at test q i) (windows_at test q i)

-- the windows that put a near point at the probe y[q]
abbrev pub near_windows : (ℕ → ℕ → Bool) → ℕ → List ℕ → ℕ → List ℕ
near_windows near m y q = windows_at (λ i. near i (get_or y q 0)) q m

-- Passed from the probe y[from] to the probe y[q], m readings at a time: all windows of the probes before y[q] lie inside, none is worth a look, and
-- so many put a near point at their probe.
pub data Passed (near : ℕ → ℕ → Bool) (m : ℕ) (y : List ℕ) : ℕ → ℕ → ℕ → Type 0 where
  none : {q : ℕ} → Passed near m y q q 0
  more : {from q count windows : ℕ} → from + m ≤ length y → Marks m (around_suits near m y from 1) 0 → length (near_windows near m y from) ≡ count
      → Passed near m y (from + m) q windows → Passed near m y from q (count + windows)

-- The search stops at the probe y[q], some of whose windows are worth a look, and the mask marks them; or no probe is left all of whose windows lie
-- inside.
pub record StopsAt (near : ℕ → ℕ → Bool) (m : ℕ) (y : List ℕ) (q mask : ℕ) : Type 0 where
  pub inside : q + m ≤ length y → Marks m (around_suits near m y q 1) mask × (0 < mask)
  pub outside : length y < q + m → mask ≡ 0
