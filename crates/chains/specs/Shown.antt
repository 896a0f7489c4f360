-- The chain that is shown for an end: "a least chain, built back point by point; among equals the nearest earlier position is taken at every step
-- back" (document 02, #109). Assumes nothing.
use Rattle.std.specs.Prelude.{ℕ, zero, suc, ◌+◌, ◌≤◌, ◌<◌, cond, List, ◌≡◌, length, set, replicate, eqb}
use Rattle.fit.specs.Rule.{Rule}
use Rattle.fit.specs.Refusal.{max_points}
use Rattle.chains.specs.Chains.{chain_sum, IsChain, near_rule}
use Rattle.chains.specs.Least.{least_before, least_sum}

-- the nearest of the k positions before j at which f is v
unfoldable pub nearest_to : ℕ → (ℕ → ℕ) → ℕ → ℕ → ℕ
nearest_to v f j zero = 0
nearest_to v f zero (suc k) = 0
nearest_to v f (suc j) (suc k) = cond (eqb (f j) v) j (nearest_to v f j k)

-- a step back: point i stands at j; the point before it stands at the nearest of the alpha + 1 positions before j that have their least sum. Here f i h
-- is the least sum of a chain of the points 0 to i that ends at h
unfoldable pub step_back : (ℕ → ℕ → ℕ) → ℕ → ℕ → ℕ → ℕ → ℕ
unfolding nearest_to least_before
step_back f none alpha zero j = 0
step_back f none alpha (suc i) j = nearest_to (least_before none (f i) j (suc alpha)) (f i) j (suc alpha)

-- the positions of the first p points, the last of them at j, written into `out`: by recursion on the point number, falling. Positions count from
-- `base` on, and are written with it added
unfoldable pub back : (ℕ → ℕ → ℕ) → ℕ → ℕ → ℕ → List ℕ → ℕ → ℕ → List ℕ
unfolding step_back
back f none alpha base out zero j = out
back f none alpha base out (suc p) j = back f none alpha base (set out p (base + j)) p (step_back f none alpha p j)

-- "It comes as 64 positions by value, 0 beyond point m": the chain of m points that ends at e
abbrev pub chain_by : Rule → ℕ → ℕ → ℕ → List ℕ → ℕ → List ℕ
chain_by r m gamma alpha y e = back (least_sum r gamma alpha y) (suc gamma) alpha 0 (replicate max_points 0) m e

abbrev pub chain_of : ℕ → ℕ → ℕ → List ℕ → List ℕ → ℕ → List ℕ
chain_of delta gamma alpha x y e = chain_by (near_rule delta gamma x) (length x) gamma alpha y e

-- what is shown, as a fact of the positions: a chain of the points 0 to i that ends at e; each part of it has the least sum of all chains that end
-- where it does; and at every step back no nearer position would do
pub record Shows (r : Rule) (gamma alpha : ℕ) (y : List ℕ) (i e : ℕ) (at : ℕ → ℕ) : Type 0 where
  pub chain : IsChain r alpha y (suc i) at
  pub last : at i ≡ e
  pub parts : (k : ℕ) → k ≤ i → chain_sum r.cost y at (suc k) ≡ least_sum r gamma alpha y k (at k)
  pub nearest : (k h : ℕ) → k < i → at k < h → h < at (suc k) → least_sum r gamma alpha y k (at k) < least_sum r gamma alpha y k h
