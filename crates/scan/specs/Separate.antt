-- The separate sums over a recording, that the counters are compared with. Assumes nothing.
use Rattle.std.specs.Prelude.{ℕ, zero, suc, ◌+◌, List, get_or}
use Rattle.counters.specs.Sums.{stepped}

-- The sums after j readings of y, where reading a costs `cost i a` at point i. "Before the first reading all .. are in the state above
-- g"; "Each reading moves all .. one point up", a sum of 0 enters, and each grows by its cost.
unfoldable pub after : ℕ → (ℕ → ℕ → ℕ) → List ℕ → ℕ → ℕ → ℕ
after g cost y zero i = g + 1
after g cost y (suc j) i = stepped (λ p. cost p (get_or y j 0)) 0 (after g cost y j) i
