-- What a chain is, and the least sum of those that end at a position, as document 02 words it (#109). Assumes nothing.
-- Points and positions count from 0.
use Rattle.std.specs.Prelude.{ℕ, zero, suc, ◌+◌, ◌-◌, ◌≤◌, ◌<◌, true, List, ◌≡◌, length, get_or}
use Rattle.fit.specs.Rule.{Rule}
use Rattle.fit.specs.Place.{rule_of, d_of}

-- what the readings at the positions of the first k points add up to, where point i stands at position `at i`
unfoldable pub chain_sum : (ℕ → ℕ → ℕ) → List ℕ → (ℕ → ℕ) → ℕ → ℕ
chain_sum cost y at zero = 0
chain_sum cost y at (suc k) = chain_sum cost y at k + cost k (get_or y (at k) 0)

-- "one recording position per point, rising, with at most alpha readings skipped between neighbours, every reading near its point": of the first k
-- points. "A skipped reading may be anything, 0 included": nothing is asked of it
pub record IsChain (r : Rule) (alpha : ℕ) (y : List ℕ) (k : ℕ) (at : ℕ → ℕ) : Type 0 where
  pub inside : (i : ℕ) → i < k → at i < length y
  pub rises : (i : ℕ) → suc i < k → at i < at (suc i)
  pub close : (i : ℕ) → suc i < k → at (suc i) ≤ at i + 1 + alpha
  pub each : (i : ℕ) → i < k → r.fit i (get_or y (at i) 0) ≡ true

-- "and the sum at most gamma": a chain of the points 0 to i ends at position e, and this is its sum
pub record Ends (r : Rule) (gamma alpha : ℕ) (y : List ℕ) (i e sum : ℕ) : Type 0 where
  pub at : ℕ → ℕ
  pub chain : IsChain r alpha y (suc i) at
  pub last : at i ≡ e
  pub adds : chain_sum r.cost y at (suc i) ≡ sum
  pub within : sum ≤ gamma

-- "the least sum there"
pub record LeastEnd (r : Rule) (gamma alpha : ℕ) (y : List ℕ) (i e sum : ℕ) : Type 0 where
  pub ends : Ends r gamma alpha y i e sum
  pub least : (other : ℕ) → Ends r gamma alpha y i e other → sum ≤ other

-- the rule of an ordinary profile: "every reading near its point", that is, by d, and so never a 0 (#103)
abbrev pub near_rule : ℕ → ℕ → List ℕ → Rule
near_rule delta gamma x = rule_of (d_of delta gamma) x

-- a chain of an ordinary profile ends at e with that sum, and the least sum of those that do
abbrev pub ChainEnds : ℕ → ℕ → ℕ → List ℕ → List ℕ → ℕ → ℕ → Type 0
ChainEnds delta gamma alpha x y e sum = Ends (near_rule delta gamma x) gamma alpha y (length x - 1) e sum

abbrev pub LeastChainEnds : ℕ → ℕ → ℕ → List ℕ → List ℕ → ℕ → ℕ → Type 0
LeastChainEnds delta gamma alpha x y e sum = LeastEnd (near_rule delta gamma x) gamma alpha y (length x - 1) e sum
