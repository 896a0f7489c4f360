-- What the conditions of the lone, mismatch and full jumps say, and the compare order. Nobody else opens these definitions. Assumes nothing.
use Prim.Native.Nat.{ℕ, ◌+◌, ◌-◌, ◌*◌, ◌≤◌, ◌<◌}
use mathlib.Core.Path.{◌≡◌, refl, ap, ◌∙◌}
use mathlib.Core.Bool.{Bool, true, false, not, ◌&&◌, ◌||◌}
use mathlib.Core.Logic.{◌⊎◌, inl, inr, ⊎_elim}
use mathlib.Core.List.{List}
use native.Mathlib.Omega.{arith}
use lib.ListN.{length, get_or}
use lib.Dec.{ltb, eqb}
use borrow.Author.Tests.{ltb-true, eqb-true, lt-ltb, le-ltb, eq-eqb}
use Rattle.fit.specs.Reading.{alike}
use Rattle.fit.proofs.Laws.Bools.{and_left, and_right, and_both, or_cases, or_left, or_right, not_both, le_or_lt}
use Rattle.jumps.specs.Least.{least, all_below}
use Rattle.jumps.specs.Jumps.{lonely, lone_at, lone_jump, earlier, agrees_at, mismatch_at, mismatch_jump, full_at, full_jump}
use Rattle.jumps.proofs.Laws.Leasts.{Upward, least_ge, least_le, all_none, all_more, all_miss, all_at, all_of}

-- a test of what is compared only where position q lies in the landing window
module _ (q k : ℕ) (t : Bool) where
  in_landing : (ltb q k || t) ≡ true → k ≤ q → t ≡ true
  in_landing e l = ⊎_elim (λ u. absurd (let h : q < k = ltb-true q k u in omega arith)) (λ u. u) (or_cases (ltb q k) t e)

  or_before : (k ≤ q → t ≡ true) → (ltb q k || t) ≡ true
  or_before f = ⊎_elim (λ l. or_right (ltb q k) t (f l)) (λ l. or_left (ltb q k) t (lt-ltb q k l)) (le_or_lt k q)

  within_landing : k ≤ q → (ltb q k || t) ≡ t
  within_landing l = rw (le-ltb q k l)

module _ (d : ℕ) (x : List ℕ) where
  -- ---- the lone condition
  pub lone_is : (p k : ℕ) → lone_at d x p k ≡ true → k ≤ p → lonely d (get_or x (p - k) 0) (get_or x p 0) ≡ true
  unfolding lone_at
  lone_is p k e l = in_landing p k (lonely d (get_or x (p - k) 0) (get_or x p 0)) e l

  pub is_lone : (p k : ℕ) → (k ≤ p → lonely d (get_or x (p - k) 0) (get_or x p 0) ≡ true) → lone_at d x p k ≡ true
  unfolding lone_at
  is_lone p k f = or_before p k (lonely d (get_or x (p - k) 0) (get_or x p 0)) f

  pub lone_within : (p k : ℕ) → k ≤ p → lone_at d x p k ≡ lonely d (get_or x (p - k) 0) (get_or x p 0)
  unfolding lone_at
  lone_within p k l = within_landing p k (lonely d (get_or x (p - k) 0) (get_or x p 0)) l

  pub lone_jump_ge : (p : ℕ) → 1 ≤ lone_jump d x p
  unfolding lone_jump
  lone_jump_ge p = least_ge (lone_at d x p) 1 p

  pub lone_jump_le : (p : ℕ) → lone_jump d x p ≤ p + 1
  unfolding lone_jump
  lone_jump_le p = omega (arith, least_le (lone_at d x p) 1 p)

  -- where a loop that looks for it starts
  pub lone_start : (p : ℕ) → Upward (lone_at d x p) (p + 1) (lone_jump d x p) 1
  unfolding lone_jump
  lone_start p = let e : p ≡ p + 1 - 1 = omega arith in record { left = omega arith; same = ap (least (lone_at d x p) 1) e }

  -- ---- the compare order
  pub earlier_is : (q p : ℕ) → earlier d x q p ≡ true → (lone_jump d x p < lone_jump d x q) ⊎ ((lone_jump d x p ≡ lone_jump d x q) × (p < q))
  unfolding earlier
  earlier_is q p e =
      let a = lone_jump d x p in
      let b = lone_jump d x q in
      ⊎_elim (λ u. inl (ltb-true a b u))
      (λ u. inr (eqb-true a b (and_left (eqb a b) (ltb p q) u), ltb-true p q (and_right (eqb a b) (ltb p q) u)))
      (or_cases (ltb a b) (eqb a b && ltb p q) e)

  pub is_earlier : (q p : ℕ) → (lone_jump d x p < lone_jump d x q) ⊎ ((lone_jump d x p ≡ lone_jump d x q) × (p < q)) → earlier d x q p ≡ true
  unfolding earlier
  is_earlier q p f =
      let a = lone_jump d x p in
      let b = lone_jump d x q in
      ⊎_elim (λ h. or_left (ltb a b) (eqb a b && ltb p q) (lt-ltb a b h))
      (λ h. or_right (ltb a b) (eqb a b && ltb p q) (and_both (eqb a b) (ltb p q) (eq-eqb a b h.0) (lt-ltb p q h.1)))
      f

  pub not_before_itself : (p : ℕ) → earlier d x p p ≡ true → ⊥
  not_before_itself p e = ⊎_elim (λ h. omega (arith, h)) (λ h. omega (arith, h.1)) (earlier_is p p e)

  -- ---- an earlier point agrees with the landing window
  pub agrees_is : (k q : ℕ) → agrees_at d x k q ≡ true → k ≤ q → alike (2 * d) (get_or x (q - k) 0) (get_or x q 0) ≡ true
  unfolding agrees_at
  agrees_is k q e l = in_landing q k (alike (2 * d) (get_or x (q - k) 0) (get_or x q 0)) e l

  pub is_agreed : (k q : ℕ) → (k ≤ q → alike (2 * d) (get_or x (q - k) 0) (get_or x q 0) ≡ true) → agrees_at d x k q ≡ true
  unfolding agrees_at
  is_agreed k q f = or_before q k (alike (2 * d) (get_or x (q - k) 0) (get_or x q 0)) f

  pub agrees_within : (k q : ℕ) → k ≤ q → agrees_at d x k q ≡ alike (2 * d) (get_or x (q - k) 0) (get_or x q 0)
  unfolding agrees_at
  agrees_within k q l = within_landing q k (alike (2 * d) (get_or x (q - k) 0) (get_or x q 0)) l

  -- ---- the mismatch jump's condition
  where_earlier : (a b : Bool) → (a ≡ true → b ≡ true) → (not a || b) ≡ true
  where_earlier true b f = f refl
  where_earlier false b f = refl

  earlier_so : (a b : Bool) → (not a || b) ≡ true → a ≡ true → b ≡ true
  earlier_so true b e h = e
  earlier_so false b e h = absurd (not_both h refl)

  module _ (p k : ℕ) where
    earlier_agree : ℕ → Bool
    earlier_agree q = not (earlier d x q p) || agrees_at d x k q

    pub mismatch_lone : mismatch_at d x p k ≡ true → lone_at d x p k ≡ true
    unfolding mismatch_at earlier_agree
    mismatch_lone e = and_left (lone_at d x p k) (all_below earlier_agree (length x)) e

    pub mismatch_agrees : mismatch_at d x p k ≡ true → (q : ℕ) → q < length x → earlier d x q p ≡ true → agrees_at d x k q ≡ true
    unfolding mismatch_at earlier_agree
    mismatch_agrees e q l h =
        earlier_so (earlier d x q p) (agrees_at d x k q)
        (all_at earlier_agree (length x) (and_right (lone_at d x p k) (all_below earlier_agree (length x)) e) q l) h

    pub is_mismatch : lone_at d x p k ≡ true → ((q : ℕ) → q < length x → earlier d x q p ≡ true → agrees_at d x k q ≡ true) → mismatch_at d x p k ≡ true
    unfolding mismatch_at earlier_agree
    is_mismatch e f =
        and_both (lone_at d x p k) (all_below earlier_agree (length x)) e
        (all_of earlier_agree (length x) (λ q l. where_earlier (earlier d x q p) (agrees_at d x k q) (f q l)))

  -- ---- the full jump's condition
  pub full_is : (k : ℕ) → full_at d x k ≡ true → (i : ℕ) → i + k < length x → alike (2 * d) (get_or x i 0) (get_or x (i + k) 0) ≡ true
  unfolding full_at
  full_is k e i l = all_at (λ i. alike (2 * d) (get_or x i 0) (get_or x (i + k) 0)) (length x - k) e i (omega arith)

  pub is_full : (k : ℕ) → ((i : ℕ) → i + k < length x → alike (2 * d) (get_or x i 0) (get_or x (i + k) 0) ≡ true) → full_at d x k ≡ true
  unfolding full_at
  is_full k f = all_of (λ i. alike (2 * d) (get_or x i 0) (get_or x (i + k) 0)) (length x - k) (λ i l. f i (omega arith))

  -- a loop that tests it: the first i points are alike to those k further on
  pub record AllAlike (k i : ℕ) : Type 0 where
    pub left : i ≤ length x - k
    pub so_far : all_below (λ j. alike (2 * d) (get_or x j 0) (get_or x (j + k) 0)) i ≡ true

  pub alike_start : (k : ℕ) → AllAlike k 0
  alike_start k = record { left = omega arith; so_far = all_none (λ j. alike (2 * d) (get_or x j 0) (get_or x (j + k) 0)) }

  pub alike_miss : (k i : ℕ) → i < length x - k → alike (2 * d) (get_or x i 0) (get_or x (i + k) 0) ≡ false → full_at d x k ≡ false
  unfolding full_at
  alike_miss k i l f = all_miss (λ j. alike (2 * d) (get_or x j 0) (get_or x (j + k) 0)) (length x - k) i l f

  module _ {k i : ℕ} (h : AllAlike k i) where
    pub alike_more : alike (2 * d) (get_or x i 0) (get_or x (i + k) 0) ≡ true → i < length x - k → AllAlike k (i + 1)
    alike_more e l = record { left = omega arith; so_far = all_more (λ j. alike (2 * d) (get_or x j 0) (get_or x (j + k) 0)) i h.so_far e }

    pub alike_end : length x - k ≤ i → full_at d x k ≡ true
    unfolding full_at
    alike_end l =
        let e : length x - k ≡ i = omega (arith, h.left) in
        ap (all_below (λ j. alike (2 * d) (get_or x j 0) (get_or x (j + k) 0))) e ∙ h.so_far

  pub full_start : 1 ≤ length x → Upward (full_at d x) (length x) (full_jump d x) 1
  unfolding full_jump
  full_start some = record { left = some; same = refl }

  pub mismatch_start : (p : ℕ) → 1 ≤ length x → Upward (mismatch_at d x p) (length x) (mismatch_jump d x p) 1
  unfolding mismatch_jump
  mismatch_start p some = record { left = some; same = refl }
