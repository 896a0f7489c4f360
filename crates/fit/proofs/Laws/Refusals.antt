-- Laws of the refusal numbers: each is given exactly when the documents say so, and where no reason that is written before it applies.
-- Each is proved of the shortest chain that has it, and `ahead` and `behind` carry it to the longer ones. Assumes nothing.
use mathlib.Core.Path.{◌≡◌, refl}
use mathlib.Core.Bool.{true, false}
use mathlib.Core.Logic.Iff
use mathlib.Core.Logic.{inl, inr, ⊎_elim, ◌↔◌}
use mathlib.Core.List.{List, [], ◌∷◌, tail}
use Prim.Native.Nat.{ℕ, ◌≤◌, ◌<◌}
use native.Mathlib.Omega.{arith}
use lib.ListN.{length}
use lib.Dec.{ltb}
use borrow.Author.Tests.{eqb-true, ltb-true, eq-eqb, lt-ltb}
use Rattle.fit.specs.Place.{d_of}
use Rattle.fit.specs.Chain.{NoneApplies, FirstInOrder}
use Rattle.fit.specs.Refusal.{max_points, max_delta, max_gamma, max_readings, no_points, many_points, zero_point, wide_tolerance, many_readings, profile_reasons, question_reasons, search_reasons, or_else, of_profile, of_tolerance, of_recording, question_refusal, search_refusal, holds_zero, HoldsZero, BadProfile, BadTolerance, BadRecording, Asked, Accepted}
use Rattle.fit.proofs.Laws.Bools.{or_cases, or_left, or_right, not_both, at_most}
use Rattle.fit.proofs.Laws.Chains.{has, absent, behind, ahead, first_exactly, zero_exactly, in_order, given_small, joined, none_both, one_spared, more_spared}
use Rattle.fit.proofs.Laws.Zeros.{holds_exactly, real_exactly}

-- ---- the tests, as facts
empty_exactly : (x : List ℕ) → ((no_points x).applies ≡ true) ↔ (length x ≡ 0)
empty_exactly x = (eqb-true (length x) 0, eq-eqb (length x) 0)

many_exactly : (x : List ℕ) → ((many_points x).applies ≡ true) ↔ (max_points < length x)
many_exactly x = (ltb-true max_points (length x), lt-ltb max_points (length x))

wide_exactly : (delta gamma : ℕ) → ((wide_tolerance delta gamma).applies ≡ true) ↔ BadTolerance delta gamma
wide_exactly delta gamma = (
  λ t. ⊎_elim (λ e. inl (ltb-true max_delta delta e)) (λ e. inr (ltb-true max_gamma gamma e)) (or_cases (ltb max_delta delta) (ltb max_gamma gamma) t),
  ⊎_elim (λ h. or_left (ltb max_delta delta) (ltb max_gamma gamma) (lt-ltb max_delta delta h))
      (λ h. or_right (ltb max_delta delta) (ltb max_gamma gamma) (lt-ltb max_gamma gamma h)),
)

long_exactly : (y : List ℕ) → ((many_readings y).applies ≡ true) ↔ BadRecording y
long_exactly y = (ltb-true max_readings (length y), lt-ltb max_readings (length y))

profile_spared : (x : List ℕ) → NoneApplies (profile_reasons x) ↔ (BadProfile x → ⊥)
profile_spared x =
    more_spared (no_points x) (many_points x ∷ zero_point x ∷ []) (empty_exactly x)
    (more_spared (many_points x) (zero_point x ∷ []) (many_exactly x) (one_spared (zero_point x) (holds_exactly x)))

-- ---- a profile: 1, 7 and 8, whatever is written after them
module _ (x : List ℕ) where
  -- "1 now only for m = 0"
  pub profile_one_exactly : (of_profile x ≡ 1) ↔ (length x ≡ 0)
  unfolding of_profile
  profile_one_exactly = Iff.trans (first_exactly (no_points x) (tail (profile_reasons x)) (omega arith) refl) (empty_exactly x)

  -- "7 for m > 64", and no reason before it applies
  pub profile_seven_exactly : (of_profile x ≡ 7) ↔ ((length x ≡ 0 → ⊥) × (max_points < length x))
  unfolding of_profile
  profile_seven_exactly =
      Iff.trans (behind (no_points x ∷ []) (tail (profile_reasons x)) 7 refl)
      (Iff.and (one_spared (no_points x) (empty_exactly x)) (Iff.trans (first_exactly (many_points x) (tail (tail (profile_reasons x))) (omega arith) refl) (many_exactly x)))

  -- "8 for a profile holding a 0, after 7", and no reason before it applies
  pub profile_eight_exactly : (of_profile x ≡ 8) ↔ ((length x ≡ 0 → ⊥) × ((max_points < length x → ⊥) × HoldsZero x))
  unfolding of_profile
  profile_eight_exactly =
      Iff.trans (behind (no_points x ∷ []) (tail (profile_reasons x)) 8 refl)
      (Iff.and (one_spared (no_points x) (empty_exactly x))
      (Iff.trans (behind (many_points x ∷ []) (tail (tail (profile_reasons x))) 8 refl)
      (Iff.and (one_spared (many_points x) (many_exactly x))
      (Iff.trans (first_exactly (zero_point x) (tail (tail (tail (profile_reasons x)))) (omega arith) refl) (holds_exactly x)))))

  pub profile_none_exactly : (of_profile x ≡ 0) ↔ (BadProfile x → ⊥)
  unfolding of_profile
  profile_none_exactly = Iff.trans (zero_exactly (profile_reasons x) refl) (profile_spared x)

  pub profile_few : of_profile x ≡ 0 → length x ≤ max_points
  profile_few e = at_most (length x) max_points (λ h. profile_none_exactly.0 e (inr (inl h)))

  pub profile_empty : length x ≡ 0 → of_profile x ≡ 1
  profile_empty = profile_one_exactly.1

  pub profile_long : max_points < length x → of_profile x ≡ 7
  profile_long h = profile_seven_exactly.1 (λ e. omega arith, h)

  pub profile_zero : length x ≤ max_points → holds_zero x ≡ true → of_profile x ≡ 8
  profile_zero h t =
      let z = (holds_exactly x).0 t in profile_eight_exactly.1 (λ e. omega (arith, z.inside), (λ l. omega arith, z))

  pub profile_good : 1 ≤ length x → length x ≤ max_points → holds_zero x ≡ false → of_profile x ≡ 0
  profile_good a b t = profile_none_exactly.1 (⊎_elim (λ e. omega arith) (⊎_elim (λ h. omega arith) (λ z. not_both ((holds_exactly x).1 z) t)))

-- ---- a tolerance: 2
module _ (delta gamma : ℕ) where
  tolerance_spared : NoneApplies (wide_tolerance delta gamma ∷ []) ↔ (BadTolerance delta gamma → ⊥)
  tolerance_spared = one_spared (wide_tolerance delta gamma) (wide_exactly delta gamma)

  -- No. 2: "delta > 255 or gamma > 16,320"
  pub tolerance_two_exactly : (of_tolerance delta gamma ≡ 2) ↔ BadTolerance delta gamma
  unfolding of_tolerance
  tolerance_two_exactly = Iff.trans (first_exactly (wide_tolerance delta gamma) [] (omega arith) refl) (wide_exactly delta gamma)

  pub tolerance_bad : BadTolerance delta gamma → of_tolerance delta gamma ≡ 2
  tolerance_bad = tolerance_two_exactly.1

  pub tolerance_good : delta ≤ max_delta → gamma ≤ max_gamma → of_tolerance delta gamma ≡ 0
  unfolding of_tolerance
  tolerance_good a b = (zero_exactly (wide_tolerance delta gamma ∷ []) refl).1 (tolerance_spared.1 (⊎_elim (λ h. omega arith) (λ h. omega arith)))

-- ---- a recording: 3
module _ (y : List ℕ) where
  recording_spared : NoneApplies (many_readings y ∷ []) ↔ (BadRecording y → ⊥)
  recording_spared = one_spared (many_readings y) (long_exactly y)

  -- No. 3: "n > 1,000,000"
  pub recording_three_exactly : (of_recording y ≡ 3) ↔ BadRecording y
  unfolding of_recording
  recording_three_exactly = Iff.trans (first_exactly (many_readings y) [] (omega arith) refl) (long_exactly y)

  pub recording_bad : BadRecording y → of_recording y ≡ 3
  recording_bad = recording_three_exactly.1

  pub recording_good : length y ≤ max_readings → of_recording y ≡ 0
  unfolding of_recording
  recording_good h = (zero_exactly (many_readings y ∷ []) refl).1 (recording_spared.1 (λ l. omega arith))

-- ---- a question: 1, 7, 8, 2
module _ (delta gamma : ℕ) (x : List ℕ) where
  both_spared : NoneApplies (question_reasons delta gamma x) ↔ ((BadProfile x → ⊥) × (BadTolerance delta gamma → ⊥))
  both_spared = Iff.trans (none_both (profile_reasons x) (wide_tolerance delta gamma ∷ [])) (Iff.and (profile_spared x) (tolerance_spared delta gamma))

  asked_exactly : ((BadProfile x → ⊥) × (BadTolerance delta gamma → ⊥)) ↔ Asked delta gamma x
  asked_exactly = (
    λ none. record {
      some = at_most 1 (length x) (λ h. none.0 (inl (let e : length x ≡ 0 = omega arith in e)));
      few = at_most (length x) max_points (λ h. none.0 (inr (inl h)));
      real = (real_exactly x).0 (λ z. none.0 (inr (inr z)));
      delta_small = at_most delta max_delta (λ h. none.1 (inl h));
      gamma_small = at_most gamma max_gamma (λ h. none.1 (inr h));
    },
    λ ok. (
      ⊎_elim (λ e. omega (arith, ok.some)) (⊎_elim (λ h. omega (arith, ok.few)) ((real_exactly x).1 ok.real)),
      ⊎_elim (λ h. omega (arith, ok.delta_small)) (λ h. omega (arith, ok.gamma_small)),
    ),
  )

  pub question_spared : NoneApplies (question_reasons delta gamma x) ↔ Asked delta gamma x
  question_spared = Iff.trans both_spared asked_exactly

  -- "1 now only for m = 0"
  pub asked_one_exactly : (question_refusal delta gamma x ≡ 1) ↔ (length x ≡ 0)
  unfolding question_refusal of_profile
  asked_one_exactly = Iff.trans (ahead (profile_reasons x) (wide_tolerance delta gamma ∷ []) 1 (omega arith) refl) (profile_one_exactly x)

  -- "7 for m > 64", and no reason before it applies
  pub asked_seven_exactly : (question_refusal delta gamma x ≡ 7) ↔ ((length x ≡ 0 → ⊥) × (max_points < length x))
  unfolding question_refusal of_profile
  asked_seven_exactly = Iff.trans (ahead (profile_reasons x) (wide_tolerance delta gamma ∷ []) 7 (omega arith) refl) (profile_seven_exactly x)

  -- "8 for a profile holding a 0, after 7", and no reason before it applies
  pub asked_eight_exactly : (question_refusal delta gamma x ≡ 8) ↔ ((length x ≡ 0 → ⊥) × ((max_points < length x → ⊥) × HoldsZero x))
  unfolding question_refusal of_profile
  asked_eight_exactly = Iff.trans (ahead (profile_reasons x) (wide_tolerance delta gamma ∷ []) 8 (omega arith) refl) (profile_eight_exactly x)

  -- No. 2: "delta > 255 or gamma > 16,320", and no reason before it applies
  pub asked_two_exactly : (question_refusal delta gamma x ≡ 2) ↔ ((BadProfile x → ⊥) × BadTolerance delta gamma)
  unfolding question_refusal of_tolerance
  asked_two_exactly =
      Iff.trans (behind (profile_reasons x) (wide_tolerance delta gamma ∷ []) 2 refl) (Iff.and (profile_spared x) (tolerance_two_exactly delta gamma))

  -- accepted otherwise
  pub asked_none_exactly : (question_refusal delta gamma x ≡ 0) ↔ Asked delta gamma x
  unfolding question_refusal
  asked_none_exactly = Iff.trans (zero_exactly (question_reasons delta gamma x) refl) question_spared

  -- where it is, nothing stands against the profile alone
  pub asked_profile : Asked delta gamma x → of_profile x ≡ 0
  asked_profile ok = (profile_none_exactly x).1 (asked_exactly.1 ok).0

  pub asked_accepted : question_refusal delta gamma x ≡ 0 → Asked delta gamma x
  asked_accepted = asked_none_exactly.0

  -- the first reason in the written order, whichever it is
  pub question_in_order : (num : ℕ) → 1 ≤ num → (question_refusal delta gamma x ≡ num) ↔ FirstInOrder (question_reasons delta gamma x) num
  unfolding question_refusal
  question_in_order = in_order (question_reasons delta gamma x)

  -- as code has it
  pub question_joined : question_refusal delta gamma x ≡ or_else (of_profile x) (of_tolerance delta gamma)
  unfolding question_refusal of_profile of_tolerance
  question_joined = joined (profile_reasons x) (wide_tolerance delta gamma ∷ []) refl

-- ---- a search: 1, 7, 8, 2, 3
module _ (delta gamma : ℕ) (x y : List ℕ) where
  pub search_spared : NoneApplies (search_reasons delta gamma x y) ↔ Accepted delta gamma x y
  search_spared =
      Iff.trans (none_both (question_reasons delta gamma x) (many_readings y ∷ []))
      (Iff.trans (Iff.and (question_spared delta gamma x) (recording_spared y))
      (λ h. record { asked = h.0; short = at_most (length y) max_readings h.1 }, λ ok. (ok.asked, λ l. omega (arith, ok.short))))

  -- a number of a question is given exactly where the question would have it
  as_question : (num : ℕ) → 1 ≤ num → has num (many_readings y ∷ []) ≡ false → (search_refusal delta gamma x y ≡ num) ↔ (question_refusal delta gamma x ≡ num)
  unfolding search_refusal question_refusal
  as_question num some other = ahead (question_reasons delta gamma x) (many_readings y ∷ []) num some other

  -- "1 now only for m = 0"
  pub one_exactly : (search_refusal delta gamma x y ≡ 1) ↔ (length x ≡ 0)
  one_exactly = Iff.trans (as_question 1 (omega arith) refl) (asked_one_exactly delta gamma x)

  -- "7 for m > 64", and no reason before it applies
  pub seven_exactly : (search_refusal delta gamma x y ≡ 7) ↔ ((length x ≡ 0 → ⊥) × (max_points < length x))
  seven_exactly = Iff.trans (as_question 7 (omega arith) refl) (asked_seven_exactly delta gamma x)

  -- "8 for a profile holding a 0, after 7", and no reason before it applies
  pub eight_exactly : (search_refusal delta gamma x y ≡ 8) ↔ ((length x ≡ 0 → ⊥) × ((max_points < length x → ⊥) × HoldsZero x))
  eight_exactly = Iff.trans (as_question 8 (omega arith) refl) (asked_eight_exactly delta gamma x)

  -- No. 2: "delta > 255 or gamma > 16,320", and no reason before it applies
  pub two_exactly : (search_refusal delta gamma x y ≡ 2) ↔ ((BadProfile x → ⊥) × BadTolerance delta gamma)
  two_exactly = Iff.trans (as_question 2 (omega arith) refl) (asked_two_exactly delta gamma x)

  -- No. 3: "n > 1,000,000", and no reason before it applies
  pub three_exactly : (search_refusal delta gamma x y ≡ 3) ↔ ((BadProfile x → ⊥) × (BadTolerance delta gamma → ⊥) × BadRecording y)
  unfolding search_refusal of_recording
  three_exactly =
      Iff.trans
      (Iff.trans (behind (question_reasons delta gamma x) (many_readings y ∷ []) 3 refl) (Iff.and (both_spared delta gamma x) (recording_three_exactly y)))
      (λ h. (h.0.0, h.0.1, h.1), λ h. ((h.0, h.1), h.2))

  -- accepted otherwise
  pub none_exactly : (search_refusal delta gamma x y ≡ 0) ↔ Accepted delta gamma x y
  unfolding search_refusal
  none_exactly = Iff.trans (zero_exactly (search_reasons delta gamma x y) refl) search_spared

  pub accepted : search_refusal delta gamma x y ≡ 0 → Accepted delta gamma x y
  accepted = none_exactly.0

  -- the first reason in the written order, whichever it is
  pub search_in_order : (num : ℕ) → 1 ≤ num → (search_refusal delta gamma x y ≡ num) ↔ FirstInOrder (search_reasons delta gamma x y) num
  unfolding search_refusal
  search_in_order = in_order (search_reasons delta gamma x y)

  -- every number has one digit or two
  pub search_small : search_refusal delta gamma x y ≤ 99
  unfolding search_refusal
  search_small = given_small 99 (search_reasons delta gamma x y) refl

  -- No. 4, which packed gave until #104: "4 is no longer given"
  pub never_four : search_refusal delta gamma x y ≡ 4 → ⊥
  unfolding search_refusal
  never_four = absent 4 (search_reasons delta gamma x y) (omega arith) refl

  -- as code has it
  pub search_joined : search_refusal delta gamma x y ≡ or_else (question_refusal delta gamma x) (of_recording y)
  unfolding search_refusal question_refusal of_recording
  search_joined = joined (question_reasons delta gamma x) (many_readings y ∷ []) refl

-- what is accepted by delta is accepted by d
pub accepted_by_d : (delta gamma : ℕ) (x y : List ℕ) → Accepted delta gamma x y → Accepted (d_of delta gamma) gamma x y
accepted_by_d delta gamma x y ok = record {
  asked = record {
    some = ok.asked.some;
    few = ok.asked.few;
    real = ok.asked.real;
    delta_small = omega (arith, ok.asked.delta_small);
    gamma_small = ok.asked.gamma_small;
  };
  short = ok.short;
}
