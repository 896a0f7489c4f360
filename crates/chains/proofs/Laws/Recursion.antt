-- Laws of the recursion by which the least sums are told. Assumes nothing.
use mathlib.Core.Path.{◌≡◌, refl, ap}
use mathlib.Core.Bool.{Bool, true, false}
use mathlib.Core.Logic.{⊎_elim}
use mathlib.Core.List.{List}
use Prim.Native.Nat.{ℕ, zero, suc, ◌+◌, ◌≤◌, ◌<◌, min}
use native.Mathlib.Omega.{arith}
use lib.ListN.{get_or}
use Rattle.fit.specs.Rule.{Rule}
use Rattle.fit.proofs.Laws.Bools.{le_or_lt}
use Rattle.chains.specs.Least.{least_before, extended, least_sum, lead_sum}

-- ---- the least of some positions
module _ (none : ℕ) (f : ℕ → ℕ) where
  -- of none
  pub before_none : (j : ℕ) → least_before none f j 0 ≡ none
  unfolding least_before
  before_none j = refl

  pub before_first : (k : ℕ) → least_before none f 0 k ≡ none
  unfolding least_before
  before_first zero = refl
  before_first (suc k) = refl

  -- of one more, the nearest
  pub before_more : (j k : ℕ) → least_before none f (j + 1) (k + 1) ≡ min (f j) (least_before none f j k)
  unfolding least_before
  before_more j k = let a : j + 1 ≡ suc j = omega arith in let b : k + 1 ≡ suc k = omega arith in rw (a, b)

  -- there are none before the first
  pub before_all : (j k : ℕ) → j ≤ k → least_before none f j k ≡ least_before none f j j
  unfolding least_before
  before_all zero zero h = refl
  before_all zero (suc k) h = refl
  before_all (suc j) zero h = absurd (omega arith)
  before_all (suc j) (suc k) h = ap (λ (v : ℕ). min (f j) v) (before_all j k (omega arith))

  pub before_most : (j k : ℕ) → least_before none f j k ≤ none
  unfolding least_before
  before_most j zero = omega arith
  before_most zero (suc k) = omega arith
  before_most (suc j) (suc k) = omega (arith, before_most j k)

  -- it is at most each of them
  pub before_le : (j k h : ℕ) → h < j → j ≤ h + k → least_before none f j k ≤ f h
  unfolding least_before
  before_le zero k h a b = absurd (omega arith)
  before_le (suc j) zero h a b = absurd (omega arith)
  before_le (suc j) (suc k) h a b =
      ⊎_elim (λ (l : j ≤ h). let e : h ≡ j = omega arith in rw e (omega arith)) (λ (l : h < j). omega (arith, before_le j k h l (omega arith))) (le_or_lt j h)

  -- where all of them are `none`, so is it
  pub before_empty : (j k : ℕ) → ((h : ℕ) → h < j → j ≤ h + k → f h ≡ none) → least_before none f j k ≡ none
  unfolding least_before
  before_empty j zero e = refl
  before_empty zero (suc k) e = refl
  before_empty (suc j) (suc k) e = omega (arith, e j (omega arith) (omega arith), before_empty j k (λ h p q. e h (omega arith) (omega arith)))

-- the same of another function that has the same values there
pub before_same : (none : ℕ) (f g : ℕ → ℕ) (j k : ℕ) → ((h : ℕ) → h < j → j ≤ h + k → f h ≡ g h) → least_before none f j k ≡ least_before none g j k
unfolding least_before
before_same none f g j zero e = refl
before_same none f g zero (suc k) e = refl
before_same none f g (suc j) (suc k) e = rw (e j (omega arith) (omega arith), before_same none f g j k (λ h p q. e h (omega arith) (omega arith)))

-- ---- one reading more
module _ (gamma : ℕ) (b : Bool) (v c : ℕ) where
  pub extended_far : b ≡ false → extended gamma b v c ≡ suc gamma
  unfolding extended
  extended_far e = rw e

  pub extended_near : b ≡ true → extended gamma b v c ≡ min (v + c) (suc gamma)
  unfolding extended
  extended_near e = rw e

pub extended_most : (gamma : ℕ) (b : Bool) (v c : ℕ) → extended gamma b v c ≤ suc gamma
unfolding extended
extended_most gamma true v c = omega arith
extended_most gamma false v c = omega arith

-- of a lead without a chain comes none
pub extended_none : (gamma : ℕ) (b : Bool) (c : ℕ) → extended gamma b (suc gamma) c ≡ suc gamma
unfolding extended
extended_none gamma true c = omega arith
extended_none gamma false c = refl

pub extended_in : (gamma : ℕ) (b : Bool) (v c : ℕ) → extended gamma b v c ≤ gamma → (b ≡ true) × (extended gamma b v c ≡ v + c) × (v + c ≤ gamma)
unfolding extended
extended_in gamma true v c h = (refl, omega arith, omega arith)
extended_in gamma false v c h = absurd (omega arith)

-- ---- the least sums
module _ (r : Rule) (gamma alpha : ℕ) (y : List ℕ) where
  -- one equation for the first point and for every later one
  pub least_is : (i j : ℕ) → least_sum r gamma alpha y i j ≡ extended gamma (r.fit i (get_or y j 0)) (lead_sum r gamma alpha y i j) (r.cost i (get_or y j 0))
  unfolding least_sum lead_sum
  least_is zero j = refl
  least_is (suc i) j = refl

  pub lead_first : (j : ℕ) → lead_sum r gamma alpha y 0 j ≡ 0
  unfolding lead_sum
  lead_first j = refl

  pub lead_later : (i j : ℕ) → lead_sum r gamma alpha y (i + 1) j ≡ least_before (suc gamma) (least_sum r gamma alpha y i) j (alpha + 1)
  unfolding lead_sum
  lead_later i j = let a : i + 1 ≡ suc i = omega arith in let b : alpha + 1 ≡ suc alpha = omega arith in rw (a, b)

  pub least_most : (i j : ℕ) → least_sum r gamma alpha y i j ≤ suc gamma
  least_most i j = rw (least_is i j) (extended_most gamma (r.fit i (get_or y j 0)) (lead_sum r gamma alpha y i j) (r.cost i (get_or y j 0)))
