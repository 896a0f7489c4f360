-- The least sum of a chain that ends at a position, by recursion on its points. Laws/Leasts says that it is the least of all chains. Assumes nothing.
-- gamma + 1 stands for "no chain": every sum above gamma is one state, as it is in packed's counters.
use Rattle.std.specs.Prelude.{ℕ, zero, suc, ◌+◌, min, Bool, cond, List, get_or}
use Rattle.fit.specs.Rule.{Rule}

-- the least of f at the k positions before j; `none` where there is no position
unfoldable pub least_before : ℕ → (ℕ → ℕ) → ℕ → ℕ → ℕ
least_before none f j zero = none
least_before none f zero (suc k) = none
least_before none f (suc j) (suc k) = min (f j) (least_before none f j k)

-- a sum with one reading more, where it suits its point
unfoldable pub extended : ℕ → Bool → ℕ → ℕ → ℕ
extended gamma suits sum cost = cond suits (min (sum + cost) (suc gamma)) (suc gamma)

-- the least sum of a chain of the points 0 to i that ends at position j
unfoldable pub least_sum : Rule → ℕ → ℕ → List ℕ → ℕ → ℕ → ℕ
unfolding extended least_before
least_sum r gamma alpha y zero j = extended gamma (r.fit 0 (get_or y j 0)) 0 (r.cost 0 (get_or y j 0))
least_sum r gamma alpha y (suc i) j =
    extended gamma (r.fit (suc i) (get_or y j 0)) (least_before (suc gamma) (least_sum r gamma alpha y i) j (suc alpha)) (r.cost (suc i) (get_or y j 0))

-- the least sum of the points before point i, where that one stands at position j
unfoldable pub lead_sum : Rule → ℕ → ℕ → List ℕ → ℕ → ℕ → ℕ
unfolding least_sum least_before
lead_sum r gamma alpha y zero j = 0
lead_sum r gamma alpha y (suc i) j = least_before (suc gamma) (least_sum r gamma alpha y i) j (suc alpha)
