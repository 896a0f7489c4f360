-- What a question answers of its checked input: refused by its number, or the jump that its rule has. One law each, for every question.
-- Assumes nothing.
use Prim.Native.Nat.{ℕ}
use mathlib.Core.Path.{◌≡◌, refl, sym, ap, ap₂, ◌∙◌}
use mathlib.Core.List.{List}
use native.Mathlib.Omega.{arith}
use lib.ListN.{length}
use Rattle.std.specs.Prelude.{Result, Ok, Err}
use Rattle.std.specs.Result.{IsErrAnd}
use Rattle.std.proofs.lemmas.Result.{err_from_is_err_and}
use Rattle.fit.specs.Place.{d_of}
use Rattle.fit.specs.Refusal.{or_else, question_refusal, Asked}
use Rattle.fit.specs.Refused.{number_of, refusal_of, Gives}
use Rattle.fit.specs.Spans.{spans_of}
use Rattle.fit.specs.declared.refusal.Refusal.{Refusal}
use Rattle.fit.proofs.Laws.Refusals.{asked_accepted}
use Rattle.fit.proofs.Laws.Refused.{number_some, number_only, refusal_given}
use Rattle.limits.specs.Made.{points_of, Carries}
use Rattle.limits.specs.declared.checked.Checked.{Checked}
use Rattle.limits.proofs.Laws.Constructed.{told_d, told_spans}
use Rattle.limits.proofs.Laws.Openings.{posed}
use Rattle.spans.specs.declared.Spans.{Spans}
use Rattle.tables.specs.Holding.{Usable}
use Rattle.tables.proofs.Laws.Holdings.{usable}
use Rattle.questions.specs.declared.Jump.{Jump}
use Rattle.questions.specs.Asking.{Compiles, jump_of, jump_answer, of_point, mismatch_refusal}
use Rattle.questions.proofs.Laws.Askings.{refused_is, granted_is, MismatchAsked, mismatch_past, mismatch_joined}

-- ---- the numbers alone tell an answer, so there is no second
jump_only : (r r' : Result ℕ Refusal) → jump_of r ≡ jump_of r' → r ≡ r'
jump_only (Ok k) (Ok k') e = ap (λ (j : ℕ). Ok j) (ap (λ (j : Jump). j.jump) e)
jump_only (Ok k) (Err e') e = absurd (omega (arith, number_some e', ap (λ (j : Jump). j.refusal) e))
jump_only (Err d) (Ok k') e = absurd (omega (arith, number_some d, ap (λ (j : Jump). j.refusal) e))
jump_only (Err d) (Err e') e = ap (λ (u : Refusal). Err u) (number_only d e' (ap (λ (j : Jump). j.refusal) e))

pub no_second_jump : (definition : Jump) (r r' : Result ℕ Refusal) → jump_of r ≡ definition → jump_of r' ≡ definition → r ≡ r'
no_second_jump definition r r' e e' = jump_only r r' (e ∙ sym e')

-- ---- a refusal that is handed on has the number that it had
pub handed_jump : (num k : ℕ) (r : Result ℕ Refusal) (e : Refusal) → IsErrAnd r (λ x. x ≡ e) → number_of e ≡ num → jump_of r ≡ jump_answer num k
handed_jump num k r e q h =
    let p = err_from_is_err_and r q in
    rw (p.1, p.2) (refused_is (number_of e) k (λ z. omega (arith, number_some e, z)) ∙ ap (λ (n : ℕ). jump_answer n k) h)

-- not refused, the jump
pub granted : (num j k : ℕ) → num ≡ 0 → j ≡ k → jump_of (Ok j) ≡ jump_answer num k
granted num j k z q = rw q (sym (ap (λ (n : ℕ). record { refusal = n; jump = k }) z) ∙ granted_is num k z)

-- ---- a question about one reading, by what the spans of its profile answer
module _ (delta gamma : ℕ) (x : List ℕ) where
  pub reading_refused : (k : ℕ) (e : Refusal) → Gives (question_refusal delta gamma x) (Compiles (d_of delta gamma) x) (Err e)
      → jump_of (Err e) ≡ jump_answer (question_refusal delta gamma x) k
  reading_refused k e h = handed_jump (question_refusal delta gamma x) k (Err e) e refl h

  pub reading_granted : (j k : ℕ) (s : Spans) → Gives (question_refusal delta gamma x) (Compiles (d_of delta gamma) x) (Ok s)
      → (Asked delta gamma x → Compiles (d_of delta gamma) x s → j ≡ k) → jump_of (Ok j) ≡ jump_answer (question_refusal delta gamma x) k
  reading_granted j k s h f = granted (question_refusal delta gamma x) j k h.0 (f (asked_accepted delta gamma x h.0) h.1)

-- the number of the mismatch question, by that of its checked input
pub mismatch_number : (delta gamma : ℕ) (x : List ℕ) (q : Result Checked Refusal) → Gives (question_refusal delta gamma x) (Carries delta gamma x) q
    → (p num late : ℕ) → late ≡ of_point (length x) p → num ≡ or_else (refusal_of q) late → num ≡ mismatch_refusal delta gamma x p
mismatch_number delta gamma x q a p num late l joined =
    joined ∙ ap₂ or_else (refusal_given _ (Carries delta gamma x) q a) l ∙ sym (mismatch_joined delta gamma x p)

-- ---- what a question knows past its refusals: it has what its rule needs
pub record Spanned (delta gamma : ℕ) (x spans : List ℕ) : Type 0 where
  pub ok : Asked delta gamma x
  pub made : spans ≡ spans_of (d_of delta gamma) x

module _ (delta gamma : ℕ) (x : List ℕ) where
  pub question_usable : {q : Checked} → (question_refusal delta gamma x ≡ 0) × Carries delta gamma x q → (d : ℕ) → d ≡ d_of q.tolerance.delta q.tolerance.gamma → Usable d x
  question_usable e d t = let p = posed delta gamma x e in usable delta gamma x d (told_d delta gamma x p.carries t) p.ok

  pub compiled : {q : Checked} → (question_refusal delta gamma x ≡ 0) × Carries delta gamma x q → {d m : ℕ} {rows : List ℕ} → d ≡ d_of q.tolerance.delta q.tolerance.gamma
      → rows ≡ spans_of d (points_of q.profile) → m ≡ q.profile.m → (rows ≡ spans_of (d_of delta gamma) x) × (m ≡ length x)
  compiled e t r m = let p = posed delta gamma x e in (told_spans delta gamma x p.carries t r, m ∙ p.carries.profile.m_is)

  -- not refused, the spans of an accepted profile
  pub spanned : {s : Spans} → (question_refusal delta gamma x ≡ 0) × Compiles (d_of delta gamma) x s → Spanned delta gamma x s.rows
  spanned e = record { ok = asked_accepted delta gamma x e.0; made = e.1.rows }

  -- of an accepted profile
  pub spanned_asked : {s : Spans} → (question_refusal delta gamma x ≡ 0) × Compiles (d_of delta gamma) x s → Asked delta gamma x
  spanned_asked e = asked_accepted delta gamma x e.0

-- what the mismatch question knows past its refusals
pub record MismatchPosed (delta gamma : ℕ) (x : List ℕ) (p : ℕ) (q : Checked) : Type 0 where
  pub ok : MismatchAsked delta gamma x p
  pub carries : Carries delta gamma x q

pub mismatch_posed : (delta gamma : ℕ) (x : List ℕ) {q : Checked} → (question_refusal delta gamma x ≡ 0) × Carries delta gamma x q → (p : ℕ) → 0 ≡ of_point (length x) p
    → MismatchPosed delta gamma x p q
unfolding or_else
mismatch_posed delta gamma x e p w =
    let none : mismatch_refusal delta gamma x p ≡ 0 = mismatch_joined delta gamma x p ∙ ap₂ or_else e.0 (sym w) in
    record { ok = mismatch_past delta gamma x p 0 (sym none) refl; carries = e.1 }
