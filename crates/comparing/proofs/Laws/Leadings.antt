-- Laws of `leading`: how far a test holds along a list. Assumes nothing.
use mathlib.Core.Path.{◌≡◌}
use mathlib.Core.Bool.{Bool, true, false, cond}
use mathlib.Core.Logic.{⊎_elim}
use mathlib.Core.List.{List, [], ◌∷◌}
use Prim.Native.Nat.{ℕ, zero, suc, ◌≤◌, ◌<◌}
use native.Mathlib.Nat.{le_refl, not-suc-le-zero, le_of_suc-le-suc}
use native.Mathlib.Omega.{arith}
use lib.ListN.{length, get_or}
use Rattle.fit.proofs.Laws.Bools.{either}
use Rattle.comparing.specs.Leading.{leading}

module _ (test : ℕ → Bool) where
  -- each entry at the head passes
  pub leading_at : (l : List ℕ) (i : ℕ) → i < leading test l → test (get_or l i 0) ≡ true
  unfolding leading
  leading_at [] i h = absurd (not-suc-le-zero h)
  leading_at (q ∷ l) zero h = ⊎_elim (λ (t : test q ≡ true). t) (λ (f : test q ≡ false). absurd (not-suc-le-zero (rw f at h))) (either (test q))
  leading_at (q ∷ l) (suc i) h =
      ⊎_elim (λ (t : test q ≡ true). leading_at l i (le_of_suc-le-suc (rw t at h)))
      (λ (f : test q ≡ false). absurd (not-suc-le-zero (rw f at h))) (either (test q))

  -- a head whose entries all pass is no longer than it
  pub leading_ge : (l : List ℕ) (j : ℕ) → j ≤ length l → ((i : ℕ) → i < j → test (get_or l i 0) ≡ true) → j ≤ leading test l
  unfolding leading
  leading_ge [] j h f = h
  leading_ge (q ∷ l) zero h f = omega arith
  leading_ge (q ∷ l) (suc j) h f =
      let rest : j ≤ leading test l = leading_ge l j (le_of_suc-le-suc h) (λ i b. f (suc i) (omega arith)) in
      rw (f 0 (omega arith)) (longer rest)
    where
      longer : j ≤ leading test l → suc j ≤ suc (leading test l)
      longer b = omega arith

  pub leading_le : (l : List ℕ) → leading test l ≤ length l
  unfolding leading
  leading_le [] = le_refl 0
  leading_le (q ∷ l) = by (test q) (leading_le l)
    where
      by : (b : Bool) → leading test l ≤ length l → cond b (suc (leading test l)) 0 ≤ suc (length l)
      by true h = omega arith
      by false h = omega arith

  -- and the entry behind it fails
  pub leading_stop : (l : List ℕ) → leading test l < length l → test (get_or l (leading test l) 0) ≡ false
  unfolding leading
  leading_stop [] h = absurd (not-suc-le-zero h)
  leading_stop (q ∷ l) h =
      ⊎_elim (λ (t : test q ≡ true). rw t (leading_stop l (le_of_suc-le-suc (rw t at h)))) (λ (f : test q ≡ false). rw f f) (either (test q))
