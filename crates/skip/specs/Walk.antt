-- How skip walks: probe by probe, and for each probe point by point. `near i a` says that reading a is near point i. Assumes nothing.
use Rattle.std.specs.Prelude.{ℕ, zero, suc, ◌+◌, ◌-◌, Bool, cond, ◌&&◌, List, [], ◌∷◌, ◌++◌, length, get_or, leb, ltb}

-- for the probe y[q], of the first k points, "for each point near the probe, highest first, it tries the window putting that point there,
-- if the window lies inside the recording": the window at q - i puts point i at q
unfoldable pub probed : (ℕ → ℕ → Bool) → ℕ → List ℕ → ℕ → ℕ → List ℕ
probed near m y q zero = []
probed near m y q (suc i) =
    cond (near i (get_or y q 0) && leb (q - i + m) (length y)) ((q - i) ∷ probed near m y q i) (probed near m y q i)

-- the probes y[q], y[q + m] "and so on below n", k of them at most
unfoldable pub probes : (ℕ → ℕ → Bool) → ℕ → List ℕ → ℕ → ℕ → List ℕ
probes near m y zero q = []
probes near m y (suc k) q = cond (ltb q (length y)) (probed near m y q m ++ probes near m y k (q + m)) []

-- "skip probes y[m-1], y[2m-1], and so on": no recording has more probes than readings
unfoldable pub skip_walk : (ℕ → ℕ → Bool) → ℕ → List ℕ → List ℕ
skip_walk near m y = probes near m y (length y) (m - 1)
