-- Laws of what the checked types hold, and of what a call knows of its checked input. Assumes nothing.
use Rattle.std.proofs.Common.{ℕ, ◌≡◌, ◌≤◌, List, [], ◌∷◌, ◌||◌, ◌==◌, ◌++◌, length, drop, replicate, refl, sym, ap, ap₂, ◌∙◌, arith}
use Rattle.fit.specs.Place.{d_of, g_of}
use Rattle.fit.specs.Listing.{overlay}
use Rattle.fit.specs.Refusal.{max_points, max_delta, max_gamma, or_else, holds_zero, of_profile, of_tolerance, of_recording, question_refusal, search_refusal, BadTolerance}
use Rattle.std.specs.List.{list_any}
use Rattle.std.specs.Prelude.{Result}
use Rattle.std.specs.Result.{IsOkAnd, IsErrAnd}
use Rattle.fit.specs.Spans.{spans_of}
use Rattle.fit.specs.Refused.{number_of, refusal_of, Gives}
use Rattle.fit.specs.declared.refusal.Refusal.{Refusal}
use Rattle.fit.proofs.Laws.Chains.{else_later, else_given}
use Rattle.fit.proofs.Laws.Refused.{number_some, refusal_given, err_given, ok_given}
use Rattle.fit.proofs.Laws.Refusals.{tolerance_bad, tolerance_good, question_joined, search_joined}
use Rattle.limits.specs.declared.checked.Checked.{Checked}
use Rattle.limits.specs.declared.profile.Profile.{Profile}
use Rattle.limits.specs.declared.tolerance.Tolerance.{Tolerance}
use Rattle.limits.specs.Made.{OfTolerances, OfPoints, points_of, Carries}
use Rattle.fit.proofs.Laws.Listings.{take_overlay, overlay_is}
use Rattle.std.proofs.lemmas.List.{take_all}
use lib.ListN.{length-replicate}

-- ---- reasons joined in their order: the first that applies is told
pub told_first : (num first later : ℕ) (e : Refusal) → num ≡ or_else first later → number_of e ≡ first → number_of e ≡ num
told_first num first later e joined h = h ∙ sym (else_given first later (λ z. omega (arith, number_some e, h, z))) ∙ sym joined

pub told_later : (num first later k : ℕ) → num ≡ or_else first later → first ≡ 0 → k ≡ later → k ≡ num
told_later num first later k joined none h = h ∙ sym (else_later first later none) ∙ sym joined

-- ---- what a tolerance and a profile answer, by their input
module _ (delta gamma : ℕ) (r : Result Tolerance Refusal) (given : Gives (of_tolerance delta gamma) (OfTolerances delta gamma) r) where
  pub tolerance_refused : BadTolerance delta gamma → IsErrAnd r (λ e. number_of e ≡ 2)
  tolerance_refused b = rw (tolerance_bad delta gamma b) at (err_given (of_tolerance delta gamma) (OfTolerances delta gamma) r (omega (arith, tolerance_bad delta gamma b)) given)

  pub tolerance_made_lem : delta ≤ max_delta → gamma ≤ max_gamma → IsOkAnd r (OfTolerances delta gamma)
  tolerance_made_lem a b = ok_given (of_tolerance delta gamma) (OfTolerances delta gamma) r (tolerance_good delta gamma a b) given

module _ (x : List ℕ) (r : Result Profile Refusal) (given : Gives (of_profile x) (OfPoints x) r) where
  -- refused by a reason's number
  pub profile_refused : (num : ℕ) → 1 ≤ num → of_profile x ≡ num → IsErrAnd r (λ e. number_of e ≡ num)
  profile_refused num some h = rw h at (err_given (of_profile x) (OfPoints x) r (omega (arith, some, h)) given)

  pub profile_made_lem : of_profile x ≡ 0 → IsOkAnd r (OfPoints x)
  profile_made_lem none = ok_given (of_profile x) (OfPoints x) r none given

-- ---- the checked input of a call: the numbers in their order, and what was made
pub question_checked_lem : (delta gamma num : ℕ) (x : List ℕ) (p : Result Profile Refusal) (t : Result Tolerance Refusal) → Gives (of_profile x) (OfPoints x) p
    → Gives (of_tolerance delta gamma) (OfTolerances delta gamma) t → num ≡ or_else (refusal_of p) (refusal_of t) → num ≡ question_refusal delta gamma x
question_checked_lem delta gamma num x p t a b joined =
    joined ∙ ap₂ or_else (refusal_given _ (OfPoints x) p a) (refusal_given _ (OfTolerances delta gamma) t b) ∙ sym (question_joined delta gamma x)

pub search_checked_lem : (delta gamma num late : ℕ) (x y : List ℕ) (q : Result Checked Refusal) → Gives (question_refusal delta gamma x) (Carries delta gamma x) q
    → late ≡ of_recording y → num ≡ or_else (refusal_of q) late → num ≡ search_refusal delta gamma x y
search_checked_lem delta gamma num late x y q a l joined =
    joined ∙ ap₂ or_else (refusal_given _ (Carries delta gamma x) q a) l ∙ sym (search_joined delta gamma x y)

-- ---- a point is 0 exactly where one of the points equals 0
pub any_zero : (x : List ℕ) → list_any (λ y. y == 0) x ≡ holds_zero x
any_zero [] = refl
any_zero (p ∷ x) = ap (λ b. (p == 0) || b) (any_zero x)

-- ---- points laid over a list that is long enough stand before what is behind them
pub overlay_front : (x entry : List ℕ) → length x ≤ length entry → overlay x entry ≡ x ++ drop (length x) entry
overlay_front x entry h = rw overlay_is (ap (λ (l : List ℕ). l ++ drop (length x) entry) (take_all (length entry) x h))

-- ---- a profile of these points holds them
pub holds_points : (x : List ℕ) (p : Profile) → OfPoints x p → points_of p ≡ x
holds_points x p of =
    rw (of.points_are, of.m_is) (take_overlay x (replicate max_points 0) (omega (arith, of.m_is, p.few, length-replicate {A = ℕ} max_points 0)))

-- ---- what is told by checked input: d, g and the spans are those of what was asked
module _ (delta gamma : ℕ) (x : List ℕ) {q : Checked} (c : Carries delta gamma x q) where
  pub told_d : {d : ℕ} → d ≡ d_of q.tolerance.delta q.tolerance.gamma → d ≡ d_of delta gamma
  told_d e = rw (c.tolerance.delta_is, c.tolerance.gamma_is) at e

  pub told_g : (m : ℕ) {g : ℕ} → g ≡ g_of m q.tolerance.delta q.tolerance.gamma → g ≡ g_of m delta gamma
  told_g m e = rw (c.tolerance.delta_is, c.tolerance.gamma_is) at e

  pub told_spans : {d : ℕ} {spans : List ℕ} → d ≡ d_of q.tolerance.delta q.tolerance.gamma
      → spans ≡ spans_of d (points_of q.profile) → spans ≡ spans_of (d_of delta gamma) x
  told_spans small e = rw (holds_points x q.profile c.profile, told_d small) at e

-- ---- no second tolerance, profile or checked input: what they hold is the same
pub no_second_tolerance : (delta gamma : ℕ) (t u : Tolerance) → OfTolerances delta gamma t → OfTolerances delta gamma u → t ≡ u
no_second_tolerance delta gamma t u a b =
    let d = a.delta_is ∙ sym b.delta_is in
    let g = a.gamma_is ∙ sym b.gamma_is in
    λ i. record { delta = d i; gamma = g i }

pub no_second_profile : (x : List ℕ) (p q : Profile) → OfPoints x p → OfPoints x q → (p.points ≡ q.points) × (p.m ≡ q.m)
no_second_profile x p q a b = (a.points_are ∙ sym b.points_are, a.m_is ∙ sym b.m_is)

pub no_second_checked : (delta gamma : ℕ) (x : List ℕ) (p q : Checked) → Carries delta gamma x p → Carries delta gamma x q
    → (p.tolerance ≡ q.tolerance) × (p.profile.points ≡ q.profile.points) × (p.profile.m ≡ q.profile.m)
no_second_checked delta gamma x p q a b =
    let same = no_second_profile x p.profile q.profile a.profile b.profile in
    (no_second_tolerance delta gamma p.tolerance q.tolerance a.tolerance b.tolerance, same.0, same.1)
