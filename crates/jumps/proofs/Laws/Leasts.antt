-- Laws of the greatest point and the least jump that pass a test. Nobody else opens these definitions. Assumes nothing.
use Prim.Native.Nat.{ℕ, zero, suc, ◌+◌, ◌-◌, ◌≤◌, ◌<◌}
use mathlib.Core.Path.{◌≡◌, refl, sym, ap, ◌∙◌}
use mathlib.Core.Bool.{Bool, true, false, cond}
use mathlib.Core.Logic.{⊎_elim}
use native.Mathlib.Nat.{le_refl, not-suc-le-zero, eq-or-lt_of_le, le_of_suc-le-suc}
use native.Mathlib.Numerals.{add-one}
use native.Mathlib.Omega.{arith}
use Rattle.fit.proofs.Laws.Bools.{and_left, and_right, and_both, or_cases, or_left, or_right, either, is_false, not_both, at_most}
use Rattle.jumps.specs.Least.{greatest, least, all_below, some_below}

-- ---- the greatest point
module _ (ok : ℕ → Bool) where
  pub greatest_le : (n : ℕ) → greatest ok n ≤ n
  unfolding greatest
  greatest_le zero = le_refl 0
  greatest_le (suc n) = go (ok n) (greatest_le n)
    where
      go : (b : Bool) → greatest ok n ≤ n → cond b (suc n) (greatest ok n) ≤ suc n
      go true h = le_refl (suc n)
      go false h = omega arith

  -- it passes
  pub greatest_holds : (n i : ℕ) → greatest ok n ≡ suc i → ok i ≡ true
  unfolding greatest
  greatest_holds zero i e = absurd (omega arith)
  greatest_holds (suc n) i e = ⊎_elim (λ (t : ok n ≡ true). hit t (rw t at e)) (λ (f : ok n ≡ false). greatest_holds n i (rw f at e)) (either (ok n))
    where
      hit : ok n ≡ true → suc n ≡ suc i → ok i ≡ true
      hit t q = let s : n ≡ i = omega arith in sym (ap ok s) ∙ t

  -- and none above it does
  pub greatest_none : (n j : ℕ) → greatest ok n ≤ j → j < n → ok j ≡ false
  unfolding greatest
  greatest_none zero j h l = absurd (not-suc-le-zero l)
  greatest_none (suc n) j h l =
      ⊎_elim (λ (t : ok n ≡ true). absurd (above (rw t at h)))
      (λ (f : ok n ≡ false). ⊎_elim (λ e. ap ok e ∙ f) (λ b. greatest_none n j (rw f at h) b) (eq-or-lt_of_le (le_of_suc-le-suc l)))
      (either (ok n))
    where
      above : suc n ≤ j → ⊥
      above a = omega arith

  -- where none passes, there is none
  pub greatest_absent : (n : ℕ) → ((i : ℕ) → i < n → ok i ≡ false) → greatest ok n ≡ 0
  unfolding greatest
  greatest_absent zero h = refl
  greatest_absent (suc n) h = rw (h n (omega arith)) (greatest_absent n (λ i l. h i (omega arith)))

  pub greatest_hit : (i : ℕ) → 0 < i → ok (i - 1) ≡ true → greatest ok i ≡ i
  unfolding greatest
  greatest_hit zero l e = absurd (not-suc-le-zero l)
  greatest_hit (suc i) l e = let s : suc i - 1 ≡ i = omega arith in rw (sym (ap ok s) ∙ e)

  pub greatest_miss : (i : ℕ) → 0 < i → ok (i - 1) ≡ false → greatest ok i ≡ greatest ok (i - 1)
  unfolding greatest
  greatest_miss zero l e = absurd (not-suc-le-zero l)
  greatest_miss (suc i) l e = let s : suc i - 1 ≡ i = omega arith in rw (sym (ap ok s) ∙ e, s)

-- a loop that looks for it from above: the first i points are left
pub record Downward (ok : ℕ → Bool) (n i : ℕ) : Type 0 where
  pub left : i ≤ n
  pub same : greatest ok n ≡ greatest ok i

pub down_start : (ok : ℕ → Bool) (n : ℕ) → Downward ok n n
down_start ok n = record { left = le_refl n; same = refl }

module _ {ok : ℕ → Bool} {n i : ℕ} (w : Downward ok n i) where
  pub down_end : i ≤ 0 → (0 ≡ greatest ok n) × (0 ≤ n)
  unfolding greatest
  down_end l = let e : i ≡ 0 = omega arith in (sym (w.same ∙ ap (greatest ok) e), omega arith)

  pub down_hit : {b : Bool} → b ≡ ok (i - 1) → b ≡ true → 0 < i → (i ≡ greatest ok n) × (i ≤ n)
  down_hit e t l = (sym (w.same ∙ greatest_hit ok i l (sym e ∙ t)), w.left)

  pub down_miss : {b : Bool} → b ≡ ok (i - 1) → b ≡ false → 0 < i → Downward ok n (i - 1)
  down_miss e f l = record { left = omega (arith, w.left); same = w.same ∙ greatest_miss ok i l (sym e ∙ f) }

-- tests that agree on the first n points have the same greatest
pub greatest_same : (ok ok' : ℕ → Bool) (n : ℕ) → ((i : ℕ) → i < n → ok i ≡ ok' i) → greatest ok n ≡ greatest ok' n
unfolding greatest
greatest_same ok ok' zero h = refl
greatest_same ok ok' (suc n) h = rw (h n (omega arith), greatest_same ok ok' n (λ i l. h i (omega arith)))

-- and a test that passes more has no lower one
pub greatest_mono : (ok ok' : ℕ → Bool) (n : ℕ) → ((i : ℕ) → i < n → ok i ≡ true → ok' i ≡ true) → greatest ok n ≤ greatest ok' n
greatest_mono ok ok' n h = by_number (greatest ok n) refl
  where
    by_number : (g : ℕ) → greatest ok n ≡ g → g ≤ greatest ok' n
    by_number zero e = omega arith
    by_number (suc i) e =
        at_most (suc i) (greatest ok' n) (λ l.
        let below : i < n = omega (arith, greatest_le ok n) in
        not_both (h i below (greatest_holds ok n i e)) (greatest_none ok' n i (omega arith) below))

-- ---- the least jump
module _ (test : ℕ → Bool) where
  pub least_ge : (k n : ℕ) → k ≤ least test k n
  unfolding least
  least_ge k zero = le_refl k
  least_ge k (suc n) = go (test k) (least_ge (suc k) n)
    where
      go : (b : Bool) → suc k ≤ least test (suc k) n → k ≤ cond b k (least test (suc k) n)
      go true h = le_refl k
      go false h = omega arith

  pub least_le : (k n : ℕ) → least test k n ≤ k + n
  unfolding least
  least_le k zero = omega arith
  least_le k (suc n) = go (test k) (least_le (suc k) n)
    where
      go : (b : Bool) → least test (suc k) n ≤ suc k + n → cond b k (least test (suc k) n) ≤ k + suc n
      go true h = omega arith
      go false h = omega arith

  -- it passes, if the last one does
  pub least_holds : (k n : ℕ) → test (k + n) ≡ true → test (least test k n) ≡ true
  unfolding least
  least_holds k zero e = let s : k ≡ k + 0 = omega arith in ap test s ∙ e
  least_holds k (suc n) e =
      let s : suc k + n ≡ k + suc n = omega arith in
      go (test k) refl (least_holds (suc k) n (ap test s ∙ e))
    where
      go : (b : Bool) → test k ≡ b → test (least test (suc k) n) ≡ true → test (cond b k (least test (suc k) n)) ≡ true
      go true t h = t
      go false t h = h

  -- and none below it does
  pub least_none : (k n j : ℕ) → k ≤ j → j < least test k n → test j ≡ false
  unfolding least
  least_none k zero j a b = absurd (omega arith)
  least_none k (suc n) j a b =
      ⊎_elim (λ (t : test k ≡ true). absurd (below (rw t at b)))
      (λ (f : test k ≡ false). ⊎_elim (λ e. ap test (sym e) ∙ f) (λ l. least_none (suc k) n j l (rw f at b)) (eq-or-lt_of_le a))
      (either (test k))
    where
      below : j < k → ⊥
      below h = omega arith

-- counted from the other end it is the greatest point
pub least_greatest : (ok : ℕ → Bool) (n : ℕ) → least (λ k. ok (n - k)) 1 n ≡ n + 1 - greatest ok n
unfolding least greatest
least_greatest ok n = let one : n + 1 - n ≡ 1 = omega arith in rw one at (upward n (le_refl n))
  where
    upward : (j : ℕ) → j ≤ n → least (λ k. ok (n - k)) (n + 1 - j) j ≡ n + 1 - greatest ok j
    upward zero h = refl
    upward (suc j) h =
        let at : n - (n + 1 - suc j) ≡ j = omega arith in
        let next : suc (n + 1 - suc j) ≡ n + 1 - j = omega arith in
        rw (at, next) (by_test (ok j) (upward j (omega arith)))
      where
        by_test : (b : Bool) → least (λ k. ok (n - k)) (n + 1 - j) j ≡ n + 1 - greatest ok j
            → cond b (n + 1 - suc j) (least (λ k. ok (n - k)) (n + 1 - j) j) ≡ n + 1 - cond b (suc j) (greatest ok j)
        by_test true e = refl
        by_test false e = e

-- a loop that looks from below for J, the least that passes: it stands at k, and `top` is the end
pub record Upward (test : ℕ → Bool) (top J k : ℕ) : Type 0 where
  pub left : k ≤ top
  pub same : J ≡ least test k (top - k)

module _ {test : ℕ → Bool} {top J k : ℕ} (u : Upward test top J k) where
  pub up_end : top ≤ k → k ≡ J
  unfolding least
  up_end l = let e : top - k ≡ 0 = omega arith in sym (u.same ∙ ap (least test k) e)

  pub up_hit : {b : Bool} → b ≡ test k → b ≡ true → k ≡ J
  unfolding least
  up_hit e t = sym (u.same ∙ at_once (top - k))
    where
      at_once : (n : ℕ) → least test k n ≡ k
      at_once zero = refl
      at_once (suc n) = rw (sym e ∙ t)

  pub up_miss : {b : Bool} → b ≡ test k → b ≡ false → k < top → Upward test top J (k + 1)
  unfolding least
  up_miss e f l =
      let s : top - k ≡ suc (top - (k + 1)) = omega arith in
      record { left = omega arith; same = u.same ∙ ap (least test k) s ∙ rw (sym e ∙ f, add-one) }

-- ---- all and some
module _ (test : ℕ → Bool) where
  pub all_none : all_below test 0 ≡ true
  unfolding all_below
  all_none = refl

  pub all_more : (n : ℕ) → all_below test n ≡ true → test n ≡ true → all_below test (n + 1) ≡ true
  unfolding all_below
  all_more n a e = rw add-one (and_both (all_below test n) (test n) a e)

  pub all_at : (n : ℕ) → all_below test n ≡ true → (q : ℕ) → q < n → test q ≡ true
  unfolding all_below
  all_at zero e q l = absurd (not-suc-le-zero l)
  all_at (suc n) e q l =
      ⊎_elim (λ s. ap test s ∙ and_right (all_below test n) (test n) e) (λ b. all_at n (and_left (all_below test n) (test n) e) q b)
      (eq-or-lt_of_le (le_of_suc-le-suc l))

  pub all_of : (n : ℕ) → ((q : ℕ) → q < n → test q ≡ true) → all_below test n ≡ true
  unfolding all_below
  all_of zero h = refl
  all_of (suc n) h = and_both (all_below test n) (test n) (all_of n (λ q l. h q (omega arith))) (h n (le_refl (suc n)))

  pub all_miss : (n i : ℕ) → i < n → test i ≡ false → all_below test n ≡ false
  all_miss n i l e = is_false (all_below test n) (λ h. not_both (all_at n h i l) e)

  pub some_is : (n : ℕ) → some_below test n ≡ true → (q : ℕ) × (q < n) × (test q ≡ true)
  unfolding some_below
  some_is zero e = absurd (not_both e refl)
  some_is (suc n) e =
      ⊎_elim (λ u. let r = some_is n u in (r.0, omega (arith, r.1), r.2)) (λ u. (n, le_refl (suc n), u)) (or_cases (some_below test n) (test n) e)

  pub is_some : (n q : ℕ) → q < n → test q ≡ true → some_below test n ≡ true
  unfolding some_below
  is_some zero q l e = absurd (not-suc-le-zero l)
  is_some (suc n) q l e =
      ⊎_elim (λ s. or_right (some_below test n) (test n) (sym (ap test s) ∙ e)) (λ b. or_left (some_below test n) (test n) (is_some n q b e))
      (eq-or-lt_of_le (le_of_suc-le-suc l))
