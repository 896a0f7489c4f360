-- Laws of what a question answers. Assumes nothing.
use Prim.Native.Nat.{ℕ, zero, suc, ◌≤◌, ◌<◌}
use mathlib.Core.Path.{◌≡◌, refl, sym, ◌∙◌}
use mathlib.Core.Bool.{true, false}
use mathlib.Core.Logic.Iff
use mathlib.Core.Logic.{inl, inr, ⊎_elim, ◌↔◌}
use mathlib.Core.List.{List, [], ◌∷◌}
use native.Mathlib.Omega.{arith}
use lib.ListN.{length}
use lib.Dec.{eqb, ltb}
use borrow.Author.Tests.{eqb-true, eq-eqb, ltb-true, lt-ltb}
use Rattle.fit.specs.Chain.{FirstInOrder}
use Rattle.fit.specs.Refusal.{or_else, max_points, question_reasons, question_refusal, HoldsZero, BadProfile, BadTolerance, Asked}
use Rattle.fit.proofs.Laws.Bools.{or_cases, or_left, or_right, at_most}
use Rattle.fit.proofs.Laws.Chains.{has, behind, ahead, first_exactly, zero_exactly, in_order, joined, none_both, one_spared}
use Rattle.fit.proofs.Laws.Refusals.{question_spared, asked_one_exactly, asked_seven_exactly, asked_eight_exactly, asked_two_exactly}
use Rattle.questions.specs.declared.Jump.{Jump}
use Rattle.questions.specs.Asking.{jump_answer, no_point, BadPoint, of_point, mismatch_reasons, mismatch_refusal}

-- refused: the number, and a jump of 0
pub refused_is : (number k : ℕ) → (number ≡ 0 → ⊥) → ◌≡◌ {A = Jump} (record { refusal = number; jump = 0 }) (jump_answer number k)
unfolding jump_answer
refused_is zero k h = absurd (h refl)
refused_is (suc num) k h = refl

-- accepted: 0, and the jump
pub granted_is : (number k : ℕ) → number ≡ 0 → ◌≡◌ {A = Jump} (record { refusal = number; jump = k }) (jump_answer number k)
unfolding jump_answer
granted_is number k z = rw z

-- ---- a point number: 6
module _ (m p : ℕ) where
  no_point_exactly : ((no_point m p).applies ≡ true) ↔ BadPoint m p
  no_point_exactly = (
    λ t. ⊎_elim (λ e. inl (eqb-true p 0 e)) (λ e. inr (ltb-true m p e)) (or_cases (eqb p 0) (ltb m p) t),
    ⊎_elim (λ e. or_left (eqb p 0) (ltb m p) (eq-eqb p 0 e)) (λ h. or_right (eqb p 0) (ltb m p) (lt-ltb m p h)),
  )

  point_six_exactly : (of_point m p ≡ 6) ↔ BadPoint m p
  unfolding of_point
  point_six_exactly = Iff.trans (first_exactly (no_point m p) [] (omega arith) refl) no_point_exactly

  pub point_bad : BadPoint m p → of_point m p ≡ 6
  point_bad = point_six_exactly.1

  pub point_good : (p ≡ 0 → ⊥) → p ≤ m → of_point m p ≡ 0
  unfolding of_point
  point_good a b = (zero_exactly (no_point m p ∷ []) refl).1 ((one_spared (no_point m p) no_point_exactly).1 (⊎_elim a (λ h. omega arith)))

-- what is known where the mismatch question is not refused
pub record MismatchAsked (delta gamma : ℕ) (x : List ℕ) (p : ℕ) : Type 0 where
  pub asked : Asked delta gamma x
  pub from_one : 1 ≤ p
  pub to_last : p ≤ length x

-- ---- the mismatch question: 1, 7, 8, 2, 6
module _ (delta gamma : ℕ) (x : List ℕ) (p : ℕ) where
  -- a number of every question is given exactly where every question would have it
  as_question : (num : ℕ) → 1 ≤ num → has num (no_point (length x) p ∷ []) ≡ false → (mismatch_refusal delta gamma x p ≡ num) ↔ (question_refusal delta gamma x ≡ num)
  unfolding mismatch_refusal question_refusal
  as_question num some other = ahead (question_reasons delta gamma x) (no_point (length x) p ∷ []) num some other

  -- "1 now only for m = 0"
  pub mismatch_one_exactly : (mismatch_refusal delta gamma x p ≡ 1) ↔ (length x ≡ 0)
  mismatch_one_exactly = Iff.trans (as_question 1 (omega arith) refl) (asked_one_exactly delta gamma x)

  -- "7 for m > 64", and no reason before it applies
  pub mismatch_seven_exactly : (mismatch_refusal delta gamma x p ≡ 7) ↔ ((length x ≡ 0 → ⊥) × (max_points < length x))
  mismatch_seven_exactly = Iff.trans (as_question 7 (omega arith) refl) (asked_seven_exactly delta gamma x)

  -- "8 for a profile holding a 0, after 7", and no reason before it applies
  pub mismatch_eight_exactly : (mismatch_refusal delta gamma x p ≡ 8) ↔ ((length x ≡ 0 → ⊥) × ((max_points < length x → ⊥) × HoldsZero x))
  mismatch_eight_exactly = Iff.trans (as_question 8 (omega arith) refl) (asked_eight_exactly delta gamma x)

  -- No. 2: "delta > 255 or gamma > 16,320", and no reason before it applies
  pub mismatch_two_exactly : (mismatch_refusal delta gamma x p ≡ 2) ↔ ((BadProfile x → ⊥) × BadTolerance delta gamma)
  mismatch_two_exactly = Iff.trans (as_question 2 (omega arith) refl) (asked_two_exactly delta gamma x)

  -- No. 6: "point number is 0 or above m", and no reason before it applies
  pub six_exactly : (mismatch_refusal delta gamma x p ≡ 6) ↔ (Asked delta gamma x × BadPoint (length x) p)
  unfolding mismatch_refusal of_point
  six_exactly =
      Iff.trans (behind (question_reasons delta gamma x) (no_point (length x) p ∷ []) 6 refl) (Iff.and (question_spared delta gamma x) (point_six_exactly (length x) p))

  -- accepted otherwise
  pub mismatch_none_exactly : (mismatch_refusal delta gamma x p ≡ 0) ↔ MismatchAsked delta gamma x p
  unfolding mismatch_refusal
  mismatch_none_exactly =
      Iff.trans (zero_exactly (mismatch_reasons delta gamma x p) refl)
      (Iff.trans (none_both (question_reasons delta gamma x) (no_point (length x) p ∷ []))
      (Iff.trans (Iff.and (question_spared delta gamma x) (one_spared (no_point (length x) p) (no_point_exactly (length x) p))) (
        λ h. record {
          asked = h.0;
          from_one = at_most 1 p (λ l. h.1 (inl (let e : p ≡ 0 = omega arith in e)));
          to_last = at_most p (length x) (λ l. h.1 (inr l));
        },
        λ ok. (ok.asked, ⊎_elim (λ e. omega (arith, ok.from_one)) (λ l. omega (arith, ok.to_last))),
      )))

  -- the first reason in the written order, whichever it is
  pub mismatch_in_order : (num : ℕ) → 1 ≤ num → (mismatch_refusal delta gamma x p ≡ num) ↔ FirstInOrder (mismatch_reasons delta gamma x p) num
  unfolding mismatch_refusal
  mismatch_in_order = in_order (mismatch_reasons delta gamma x p)

  pub mismatch_past : (number : ℕ) → number ≡ mismatch_refusal delta gamma x p → number ≡ 0 → MismatchAsked delta gamma x p
  mismatch_past number e z = mismatch_none_exactly.0 (sym e ∙ z)

  -- as code has it
  pub mismatch_joined : mismatch_refusal delta gamma x p ≡ or_else (question_refusal delta gamma x) (of_point (length x) p)
  unfolding mismatch_refusal question_refusal of_point
  mismatch_joined = joined (question_reasons delta gamma x) (no_point (length x) p ∷ []) refl

pub mismatch_none : {delta gamma : ℕ} {x : List ℕ} {p : ℕ} → MismatchAsked delta gamma x p → mismatch_refusal delta gamma x p ≡ 0
mismatch_none {delta} {gamma} {x} {p} ok = (mismatch_none_exactly delta gamma x p).1 ok
