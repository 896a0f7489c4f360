-- A probe is a reading y[q], and of the windows that hold it the window at q - i puts point i there. `near i a` says that reading a is near point i
-- of m. Assumes nothing.
use Rattle.std.specs.Prelude.{Bool, ◌&&◌, ◌||◌, List, ℕ, zero, suc, ◌+◌, ◌-◌, get_or, leb, ltb}

-- the window that puts point i at the probe suits the point k before, and the point k behind, as far as there are such points
abbrev pub beside_suits : (ℕ → ℕ → Bool) → ℕ → List ℕ → ℕ → ℕ → ℕ → Bool
beside_suits near m y q k i = (ltb i k || near (i - k) (get_or y (q - k) 0)) && (leb m (i + k) || near (i + k) (get_or y (q + k) 0))

-- it suits point i, and the k points on either side
unfoldable pub around_suits : (ℕ → ℕ → Bool) → ℕ → List ℕ → ℕ → ℕ → ℕ → Bool
around_suits near m y q zero i = near i (get_or y q 0)
around_suits near m y q (suc k) i = around_suits near m y q k i && beside_suits near m y q (suc k) i
