-- The jump rules of document 01, and of document 02 the one of #108. Points count from 0: the documents' x[i] is point i - 1 here, and document
-- 01's "p - k < 1" is p < k. Assumes nothing.
use Rattle.std.specs.Prelude.{ℕ, ◌+◌, ◌-◌, ◌*◌, Bool, ◌&&◌, ◌||◌, List, length, get_or, leb, eqb}
use Rattle.std.proofs.Math.Bool.{not}
use Rattle.std.proofs.Math.Dec.{ltb}
use Rattle.fit.specs.Reading.{lowest, highest, alike, near}
use Rattle.jumps.specs.Least.{greatest, least, all_below, some_below}

-- ---- the three rules that look at one reading a, for points of any kind: `near i a` says that a is near point i, whatever that is for its kind
-- "m - i for the greatest i with x[i] near a; m if there is none"
abbrev pub last_jump : (ℕ → ℕ → Bool) → ℕ → ℕ → ℕ
last_jump near m a = m - greatest (λ i. near i a) m

-- "m + 1 - i for the greatest i with x[i] near a; m + 1 if none"
abbrev pub next_jump : (ℕ → ℕ → Bool) → ℕ → ℕ → ℕ
next_jump near m a = m + 1 - greatest (λ i. near i a) m

-- "the least k of 1 or more with k = m or x[m-k] near a" (document 02, #108): m where none from 1 to m - 1 is one
unfoldable pub seen_jump : (ℕ → ℕ → Bool) → ℕ → ℕ → ℕ
unfolding least
seen_jump near m a = least (λ k. near (m - 1 - k) a) 1 (m - 1)

-- "some reading c .. is near" one point "and not near" the other, where "c runs from 1 to 255" (#103)
unfoldable pub lonely : ℕ → ℕ → ℕ → Bool
unfolding lowest some_below
lonely d one other = some_below (λ c. leb lowest c && (near d one c && not (near d other c))) (highest + 1)

module _ (d : ℕ) (x : List ℕ) where
  -- "m - i for the greatest i < m with |x[i] - x[m]| at most 2d; m if none"
  abbrev pub after_jump : ℕ
  after_jump = length x - greatest (λ i. alike (2 * d) (get_or x i 0) (get_or x (length x - 1) 0)) (length x - 1)

  -- the lone condition of point p at k: "p - k < 1, or some reading c .. is near x[p-k] and not near x[p]"
  unfoldable pub lone_at : ℕ → ℕ → Bool
  unfolding lonely
  lone_at p k = ltb p k || lonely d (get_or x (p - k) 0) (get_or x p 0)

  -- "the lone jump of point p is the least k of 1 or more such that" it holds
  unfoldable pub lone_jump : ℕ → ℕ
  unfolding least lone_at
  lone_jump p = least (lone_at p) 1 p

  -- point q is compared before point p: "by falling lone jump, the higher point first among equals"
  unfoldable pub earlier : ℕ → ℕ → Bool
  unfolding lone_jump
  earlier q p = ltb (lone_jump p) (lone_jump q) || (eqb (lone_jump p) (lone_jump q) && ltb p q)

  -- "q - k < 1 or |x[q-k] - x[q]| is at most 2d"
  unfoldable pub agrees_at : ℕ → ℕ → Bool
  unfolding alike
  agrees_at k q = ltb q k || alike (2 * d) (get_or x (q - k) 0) (get_or x q 0)

  -- "p meets the lone condition and, for every point q compared earlier," that
  unfoldable pub mismatch_at : ℕ → ℕ → Bool
  unfolding all_below lone_at earlier agrees_at
  mismatch_at p k = lone_at p k && all_below (λ q. not (earlier q p) || agrees_at k q) (length x)

  -- "the least k of 1 or more for which": k = m is one
  unfoldable pub mismatch_jump : ℕ → ℕ
  unfolding least mismatch_at
  mismatch_jump p = least (mismatch_at p) 1 (length x - 1)

  -- "|x[i] - x[i+k]| at most 2d for i = 1..m-k"
  unfoldable pub full_at : ℕ → Bool
  unfolding all_below alike
  full_at k = all_below (λ i. alike (2 * d) (get_or x i 0) (get_or x (i + k) 0)) (length x - k)

  -- "the least k of 1 or more with" that: k = m is one
  unfoldable pub full_jump : ℕ
  unfolding least full_at
  full_jump = least full_at 1 (length x - 1)
