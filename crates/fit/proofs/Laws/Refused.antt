-- Laws of refusals and their numbers: none is 0, no two are the same, and so a result is told by its numbers. Assumes nothing.
use Rattle.std.proofs.Common.{ℕ, ◌≡◌, ◌≤◌, refl, sym, ap, ◌∙◌, cond, ◌==◌, arith, Result, Ok, Err}
use Rattle.std.specs.Result.{IsOkAnd, IsErrAnd}
use Rattle.std.proofs.lemmas.Result.{err_from_is_err_and}
use Rattle.fit.specs.Refused.{number_of, refusal_of, Gives}
use Rattle.fit.specs.Answer.{Sought, Lent, search_of, Answer}
use Rattle.fit.specs.declared.answer.Found.{Found}
use Rattle.fit.specs.declared.answer.Search.{Search}
use Rattle.fit.specs.declared.refusal.Refusal.{Refusal}
use Rattle.fit.specs.declared.refusal.Refusal.TheVariants.{NoPoints, WideTolerance, ManyReadings, BadInput, OutOfRange, ManyPoints, ZeroPoint}
use Rattle.fit.proofs.Laws.Answers.{refused_by}

-- ---- numbers
pub number_some : (e : Refusal) → 1 ≤ number_of e
unfolding number_of
number_some NoPoints = omega arith
number_some WideTolerance = omega arith
number_some ManyReadings = omega arith
number_some BadInput = omega arith
number_some OutOfRange = omega arith
number_some ManyPoints = omega arith
number_some ZeroPoint = omega arith

-- the refusal of a number
unfoldable refusal_at : ℕ → Refusal
refusal_at n = cond (n == 1) NoPoints (cond (n == 2) WideTolerance (cond (n == 3) ManyReadings
    (cond (n == 5) BadInput (cond (n == 6) OutOfRange (cond (n == 7) ManyPoints ZeroPoint)))))

number_back : (e : Refusal) → refusal_at (number_of e) ≡ e
unfolding number_of refusal_at
number_back NoPoints = refl
number_back WideTolerance = refl
number_back ManyReadings = refl
number_back BadInput = refl
number_back OutOfRange = refl
number_back ManyPoints = refl
number_back ZeroPoint = refl

-- no two refusals have one number
pub number_only : (e e' : Refusal) → number_of e ≡ number_of e' → e ≡ e'
number_only e e' same = sym (number_back e) ∙ ap refusal_at same ∙ number_back e'

-- ---- what a call gives: no second result. Two values of which P holds are the same in what Q says.
abbrev pub SameResult : {A : Type 0} → (A → A → Type 0) → Result A Refusal → Result A Refusal → Type 0
SameResult Q (Ok v) (Ok w) = Q v w
SameResult Q (Ok v) (Err e) = ⊥
SameResult Q (Err d) (Ok w) = ⊥
SameResult Q (Err d) (Err e) = d ≡ e

pub no_second_given : {A : Type 0} (num : ℕ) (P : A → Type 0) (Q : A → A → Type 0) → ((v w : A) → P v → P w → Q v w) → (r r' : Result A Refusal)
    → Gives num P r → Gives num P r' → SameResult Q r r'
no_second_given num P Q same (Ok v) (Ok w) a b = same v w a.1 b.1
no_second_given num P Q same (Ok v) (Err e) a b = omega (arith, number_some e, a.0, b)
no_second_given num P Q same (Err d) (Ok w) a b = omega (arith, number_some d, a, b.0)
no_second_given num P Q same (Err d) (Err e) a b = number_only d e (a ∙ sym b)

-- ---- which of the two is given, by the number: it is the result's own
pub refusal_given : {A : Type 0} (num : ℕ) (P : A → Type 0) (r : Result A Refusal) → Gives num P r → refusal_of r ≡ num
refusal_given num P (Ok v) g = sym g.0
refusal_given num P (Err e) g = g

pub err_given : {A : Type 0} (num : ℕ) (P : A → Type 0) (r : Result A Refusal) → 1 ≤ num → Gives num P r → IsErrAnd r (λ e. number_of e ≡ num)
err_given num P (Ok v) some g = absurd (omega (arith, some, g.0))
err_given num P (Err e) some g = g

pub ok_given : {A : Type 0} (num : ℕ) (P : A → Type 0) (r : Result A Refusal) → num ≡ 0 → Gives num P r → IsOkAnd r P
ok_given num P (Ok v) none g = g.1
ok_given num P (Err e) none g = absurd (omega (arith, number_some e, none, g))

-- ---- a search that is refused, by the number of its refusal
pub answer_refusal : (num : ℕ) (t : Sought) (tried : ℕ) (entry : Lent) (e : Refusal) → number_of e ≡ num → Answer num t tried entry (search_of (Err e)) entry
answer_refusal num t tried entry e h = rw h (refused_by num t tried entry (λ z. omega (arith, number_some e, h)))

-- the numbers alone tell the result
pub search_only : (r r' : Result Found Refusal) → search_of r ≡ search_of r' → r ≡ r'
search_only (Ok f) (Ok f') e =
    let total = ap (λ (s : Search). s.total) e in
    let tried = ap (λ (s : Search). s.tried) e in
    let least = ap (λ (s : Search). s.least) e in
    λ i. Ok (record { total = total i; tried = tried i; least = least i })
search_only (Ok f) (Err e') e = absurd (omega (arith, number_some e', ap (λ (s : Search). s.refusal) e))
search_only (Err d) (Ok f') e = absurd (omega (arith, number_some d, ap (λ (s : Search). s.refusal) e))
search_only (Err d) (Err e') e = ap (λ u. Err u) (number_only d e' (ap (λ (s : Search). s.refusal) e))

-- ---- a refusal that is handed on by `?` has the number that it had
pub handed : {A : Type 0} (num : ℕ) (P : A → Type 0) (r : Result A Refusal) (e : Refusal) → IsErrAnd r (λ x. x ≡ e) → number_of e ≡ num → Gives num P r
handed num P r e q h = let p = err_from_is_err_and r q in rw (p.1, p.2) h

pub handed_search : (num : ℕ) (t : Sought) (tried : ℕ) (entry : Lent) (r : Result Found Refusal) (e : Refusal) → IsErrAnd r (λ x. x ≡ e) → number_of e ≡ num
    → Answer num t tried entry (search_of r) entry
handed_search num t tried entry r e q h = let p = err_from_is_err_and r q in rw (p.1, p.2) (answer_refusal num t tried entry e h)
