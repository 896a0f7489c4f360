-- Laws of a window under any rule, and that two rules that ask the same have the same places. Assumes nothing.
use mathlib.Core.Path.{◌≡◌, refl, sym, ap₂, ◌∙◌}
use mathlib.Core.Bool.{Bool, true, false, ◌&&◌}
use mathlib.Core.Logic.{⊎_elim}
use mathlib.Core.List.{List}
use Prim.Native.Nat.{ℕ, zero, suc, ◌+◌, ◌*◌, ◌≤◌, ◌<◌}
use native.Mathlib.Nat.{add-zero, zero-mul, suc-mul, eq-or-lt_of_le, not-suc-le-zero, le_of_suc-le-suc}
use native.Mathlib.Numerals.{add-one}
use native.Mathlib.Omega.{arith}
use lib.ListN.{length, get_or}
use lib.Dec.{leb}
use borrow.Author.Tests.{leb-true, le-leb}
use Rattle.fit.specs.Rule.{Rule, reading_at, all_fit, sum_cost, is_place_by, near_by, cut_at, SameRule}
use Rattle.fit.specs.Place.{windows}
use Rattle.fit.proofs.Laws.Bools.{and_left, and_right, and_both, all_three, not_both, same_test, is_false}

-- ---- the readings of a window
module _ (fit : ℕ → ℕ → Bool) (y : List ℕ) (s : ℕ) where
  pub fit_none : all_fit fit y s 0 ≡ true
  unfolding all_fit
  fit_none = refl

  pub fit_next : (k : ℕ) → all_fit fit y s (k + 1) ≡ (all_fit fit y s k && fit k (reading_at y s k))
  unfolding all_fit
  fit_next k = rw add-one

  pub fit_more : (k : ℕ) → all_fit fit y s k ≡ true → fit k (reading_at y s k) ≡ true → all_fit fit y s (k + 1) ≡ true
  unfolding all_fit
  fit_more k p q = rw add-one (and_both (all_fit fit y s k) (fit k (reading_at y s k)) p q)

  pub fit_at : (m : ℕ) → all_fit fit y s m ≡ true → (i : ℕ) → i < m → fit i (reading_at y s i) ≡ true
  unfolding all_fit
  fit_at zero e i h = absurd (not-suc-le-zero h)
  fit_at (suc m) e i h =
      ⊎_elim (λ q. rw q (and_right (all_fit fit y s m) (fit m (reading_at y s m)) e))
      (λ l. fit_at m (and_left (all_fit fit y s m) (fit m (reading_at y s m)) e) i l)
      (eq-or-lt_of_le (le_of_suc-le-suc h))

  pub fit_all : (m : ℕ) → ((i : ℕ) → i < m → fit i (reading_at y s i) ≡ true) → all_fit fit y s m ≡ true
  unfolding all_fit
  fit_all zero h = refl
  fit_all (suc m) h = and_both _ _ (fit_all m (λ i l. h i (omega arith))) (h m (omega arith))

  -- where one does not suit, or one of the first k, not all do
  pub fit_far : (m i : ℕ) → i < m → fit i (reading_at y s i) ≡ false → all_fit fit y s m ≡ false
  fit_far m i h e = is_false (all_fit fit y s m) (λ t. not_both (fit_at m t i h) e)

  pub fit_broken : (m k : ℕ) → k ≤ m → all_fit fit y s k ≡ false → all_fit fit y s m ≡ false
  fit_broken m k h e = is_false (all_fit fit y s m) (λ t. not_both (fit_all k (λ i l. fit_at m t i (omega arith))) e)

module _ (cost : ℕ → ℕ → ℕ) (y : List ℕ) (s : ℕ) where
  pub sum_none : sum_cost cost y s 0 ≡ 0
  unfolding sum_cost
  sum_none = refl

  pub sum_more : (k : ℕ) → sum_cost cost y s (k + 1) ≡ sum_cost cost y s k + cost k (reading_at y s k)
  unfolding sum_cost
  sum_more k = rw add-one

  -- each cost is at most the sum
  pub sum_term : (m i : ℕ) → i < m → cost i (reading_at y s i) ≤ sum_cost cost y s m
  unfolding sum_cost
  sum_term zero i h = absurd (not-suc-le-zero h)
  sum_term (suc m) i h =
      ⊎_elim (λ q. rw q (omega arith)) (λ l. omega (arith, sum_term m i l)) (eq-or-lt_of_le (le_of_suc-le-suc h))

  -- costs of at most b make a sum of at most m times b
  pub sum_bound : (m b : ℕ) → ((i : ℕ) → i < m → cost i (reading_at y s i) ≤ b) → sum_cost cost y s m ≤ m * b
  unfolding sum_cost
  sum_bound zero b h = omega (arith, zero-mul b)
  sum_bound (suc m) b h = omega (arith, suc-mul m b, sum_bound m b (λ i l. h i (omega arith)), h m (omega arith))

-- costs that are the same make the same sum
pub sum_same : (cost cost' : ℕ → ℕ → ℕ) (y : List ℕ) (s m : ℕ)
    → ((i : ℕ) → i < m → cost i (reading_at y s i) ≡ cost' i (reading_at y s i)) → sum_cost cost y s m ≡ sum_cost cost' y s m
unfolding sum_cost
sum_same cost cost' y s zero h = refl
sum_same cost cost' y s (suc m) h =
    ap₂ (λ (a b : ℕ). a + b) (sum_same cost cost' y s m (λ i l. h i (omega arith))) (h m (omega arith))

-- ---- the test for a place
module _ (r : Rule) (m gamma : ℕ) (y : List ℕ) (s : ℕ) where
  pub by_is : s + m ≤ length y → all_fit r.fit y s m ≡ true → sum_cost r.cost y s m ≤ gamma → is_place_by r m gamma y s ≡ true
  unfolding is_place_by
  by_is a b c = and_both _ _ (le-leb _ _ a) (and_both _ _ b (le-leb _ _ c))

  -- where all readings suit, only the sum is left to ask
  pub by_sum : s + m ≤ length y → all_fit r.fit y s m ≡ true → is_place_by r m gamma y s ≡ leb (sum_cost r.cost y s m) gamma
  unfolding is_place_by
  by_sum a b = rw (le-leb (s + m) (length y) a, b)

  by_parts : is_place_by r m gamma y s ≡ true
      → (leb (s + m) (length y) ≡ true) × (all_fit r.fit y s m ≡ true) × (leb (sum_cost r.cost y s m) gamma ≡ true)
  unfolding is_place_by
  by_parts e = all_three (leb (s + m) (length y)) (all_fit r.fit y s m) (leb (sum_cost r.cost y s m) gamma) e

  pub by_inside : is_place_by r m gamma y s ≡ true → s + m ≤ length y
  by_inside e = leb-true _ _ (by_parts e).0

  pub by_all : is_place_by r m gamma y s ≡ true → all_fit r.fit y s m ≡ true
  by_all e = (by_parts e).1

  pub by_fit : is_place_by r m gamma y s ≡ true → (i : ℕ) → i < m → r.fit i (reading_at y s i) ≡ true
  by_fit e = fit_at r.fit y s m (by_parts e).1

  -- no place begins with a reading that does not suit the first point
  pub by_first : 1 ≤ m → r.fit 0 (get_or y s 0) ≡ false → is_place_by r m gamma y s ≡ false
  by_first h e = is_false (is_place_by r m gamma y s) (λ t. not_both (rw add-zero at (by_fit t 0 h)) e)

  pub by_within : is_place_by r m gamma y s ≡ true → sum_cost r.cost y s m ≤ gamma
  by_within e = leb-true _ _ (by_parts e).2

  -- a place is one of the windows
  pub by_below : is_place_by r m gamma y s ≡ true → s < windows m (length y)
  by_below e = omega (arith, by_inside e)

  -- each reading of a place may stand at its point
  pub by_near : is_place_by r m gamma y s ≡ true → (i : ℕ) → i < m → near_by r gamma i (reading_at y s i) ≡ true
  by_near e i h =
      and_both (r.fit i (reading_at y s i)) (leb (r.cost i (reading_at y s i)) gamma) (by_fit e i h)
      (le-leb (r.cost i (reading_at y s i)) gamma (omega (arith, sum_term r.cost y s m i h, by_within e)))

-- ---- the window check: its state after k points that suit, with the sum so far; `each` bounds one cost
pub record Matched (r : Rule) (y : List ℕ) (s k sum each : ℕ) : Type 0 where
  pub fits : all_fit r.fit y s k ≡ true
  pub sums : sum ≡ sum_cost r.cost y s k
  pub small : sum ≤ k * each

module _ (r : Rule) (y : List ℕ) (s each : ℕ) where
  pub matched_none : Matched r y s 0 0 each
  matched_none = record { fits = fit_none r.fit y s; sums = sym (sum_none r.cost y s); small = omega arith }

  pub matched_more : (k c : ℕ) {sum : ℕ} → Matched r y s k sum each → r.fit k (reading_at y s k) ≡ true → c ≡ r.cost k (reading_at y s k)
      → c ≤ each → Matched r y s (k + 1) (sum + c) each
  matched_more k c f n e b = record {
    fits = fit_more r.fit y s k f.fits n;
    sums = rw (sum_more r.cost y s k, f.sums, e);
    small = omega (arith, f.small);
  }

-- ---- two rules that ask the same
same_back : (m : ℕ) (r r' : Rule) → SameRule m r r' → SameRule m r' r
same_back m r r' q = record {
  same_fit = λ i a l. sym (q.same_fit i a l);
  same_cost = λ i a l e. sym (q.same_cost i a l (q.same_fit i a l ∙ e));
}

half_same : (m : ℕ) (r r' : Rule) → SameRule m r r' → (gamma : ℕ) (y : List ℕ) (s : ℕ) → is_place_by r m gamma y s ≡ true → is_place_by r' m gamma y s ≡ true
half_same m r r' q gamma y s e =
    let f = by_fit r m gamma y s e in
    by_is r' m gamma y s (by_inside r m gamma y s e)
    (fit_all r'.fit y s m (λ i l. sym (q.same_fit i (reading_at y s i) l) ∙ f i l))
    (omega (arith, by_within r m gamma y s e, sum_same r.cost r'.cost y s m (λ i l. q.same_cost i (reading_at y s i) l (f i l))))

module _ (m : ℕ) (r r' : Rule) (q : SameRule m r r') (gamma : ℕ) where
  pub same_place : (y : List ℕ) (s : ℕ) → is_place_by r m gamma y s ≡ is_place_by r' m gamma y s
  same_place y s = same_test _ _ (half_same m r r' q gamma y s) (half_same m r' r (same_back m r r' q) gamma y s)

-- ---- a rule that is cut at gamma has the same places
pub cut_place : (r : Rule) (m gamma : ℕ) (y : List ℕ) (s : ℕ) → is_place_by (cut_at gamma r) m gamma y s ≡ is_place_by r m gamma y s
cut_place r m gamma y s =
    same_test _ _
    (λ e. by_is r m gamma y s (by_inside (cut_at gamma r) m gamma y s e)
    (fit_all r.fit y s m (λ i l. and_left (r.fit i (reading_at y s i)) _ (by_fit (cut_at gamma r) m gamma y s e i l)))
    (by_within (cut_at gamma r) m gamma y s e))
    (λ e. by_is (cut_at gamma r) m gamma y s (by_inside r m gamma y s e) (fit_all (near_by r gamma) y s m (by_near r m gamma y s e)) (by_within r m gamma y s e))

-- so have two rules of which the one asks what the other, cut, does
pub same_cut : (m : ℕ) (r r' : Rule) (gamma : ℕ) → SameRule m r (cut_at gamma r') → (y : List ℕ) (s : ℕ) → is_place_by r m gamma y s ≡ is_place_by r' m gamma y s
same_cut m r r' gamma q y s = same_place m r (cut_at gamma r') q gamma y s ∙ cut_place r' m gamma y s
