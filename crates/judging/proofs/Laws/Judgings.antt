-- Laws of the question about one window: when it is refused, what each of its answers says, and that there is no second. Assumes nothing.
use Prim.Native.Nat.{ℕ, zero, suc, ◌+◌, ◌≤◌, ◌<◌}
use mathlib.Core.Path.{◌≡◌, refl, sym, ap, ◌∙◌}
use mathlib.Core.Bool.{true, false, ◌||◌}
use mathlib.Core.Logic.Iff
use mathlib.Core.Logic.{◌⊎◌, inl, inr, ⊎_elim, ◌↔◌}
use mathlib.Core.List.{List, [], ◌∷◌, Memᴰ}
use native.Mathlib.Omega.{arith}
use lib.ListN.{length, get_or}
use lib.Dec.{eqb}
use borrow.Author.Tests.{eqb-true, ltb-true, lt-ltb}
use Rattle.fit.specs.Reading.{near}
use Rattle.fit.specs.Rule.{reading_at}
use Rattle.fit.specs.Place.{fit_of, sum_diff, Place, d_of, g_of}
use Rattle.fit.specs.Listing.{places}
use Rattle.fit.specs.Chain.{FirstInOrder}
use Rattle.fit.specs.Refusal.{max_points, or_else, search_reasons, search_refusal, Accepted}
use Rattle.fit.specs.Spans.{rule_in, spans_of}
use Rattle.limits.specs.Made.{points_of, Carries}
use Rattle.fit.specs.Verdict.{Told, far_at, fits_with, over_with, told_of, BreaksAt, verdict_by, verdict_of}
use Rattle.limits.specs.declared.checked.Checked.{Checked}
use Rattle.fit.specs.Refused.{number_of}
use Rattle.fit.specs.declared.refusal.Refusal.{Refusal}
use Rattle.fit.specs.declared.verdict.Verdict.{Verdict}
use Rattle.fit.specs.declared.verdict.Verdict.TheVariants.{Fits, Far, Over}
use Rattle.fit.proofs.Laws.Bools.{is_false, not_both, or_cases, at_most}
use Rattle.fit.proofs.Laws.Chains.{has, behind, ahead, first_exactly, zero_exactly, in_order, joined, none_both, one_spared}
use Rattle.fit.proofs.Laws.Refusals.{search_spared}
use Rattle.fit.proofs.Laws.Refused.{number_some, number_only}
use Rattle.limits.proofs.Laws.Constructed.{told_first, told_later, told_spans}
use Rattle.std.proofs.Common.{Result, Ok, Err}
use Rattle.std.specs.Result.{IsErrAnd}
use Rattle.std.proofs.lemmas.Result.{err_from_is_err_and}
use Rattle.fit.proofs.Laws.Places.{place_in}
use Rattle.fit.proofs.Laws.Verdicts.{told_only, told_fits, told_far, told_over, fits_place, far_first, over_sum}
use Rattle.fit.proofs.Laws.Compiled.{compiled_verdict}
use Rattle.judging.specs.declared.FlatVerdict.{FlatVerdict}
use Rattle.judging.specs.Judging.{no_window, of_window, check_reasons, check_refusal, told_by, told_all, check_answer}

-- ---- an s that has no window: 6
module _ (m n s : ℕ) where
  no_window_exactly : ((no_window m n s).applies ≡ true) ↔ (n < s + m)
  no_window_exactly = (ltb-true n (s + m), lt-ltb n (s + m))

  window_six_exactly : (of_window m n s ≡ 6) ↔ (n < s + m)
  unfolding of_window
  window_six_exactly = Iff.trans (first_exactly (no_window m n s) [] (omega arith) refl) no_window_exactly

  pub window_bad : n < s + m → 6 ≡ of_window m n s
  window_bad h = sym (window_six_exactly.1 h)

  pub window_good : s + m ≤ n → 0 ≡ of_window m n s
  unfolding of_window
  window_good h = sym ((zero_exactly (no_window m n s ∷ []) refl).1 ((one_spared (no_window m n s) no_window_exactly).1 (λ l. omega arith)))

not_six : (num m n s : ℕ) → (num ≡ 6 → ⊥) → has num (no_window m n s ∷ []) ≡ false
not_six num m n s other = is_false (eqb num 6 || false) (λ t. ⊎_elim (λ e. other (eqb-true num 6 e)) (λ e. not_both e refl) (or_cases (eqb num 6) false t))

-- what is known where the question is not refused
pub record CheckAsked (delta gamma : ℕ) (x y : List ℕ) (s : ℕ) : Type 0 where
  pub ok : Accepted delta gamma x y
  pub inside : s + length x ≤ length y

-- ---- the numbers: 1, 7, 8, 2, 3, 6
module _ (delta gamma : ℕ) (x y : List ℕ) (s : ℕ) where
  -- every number but 6 is given exactly where a search of that recording is refused by it
  pub as_search : (num : ℕ) → 1 ≤ num → (num ≡ 6 → ⊥) → (check_refusal delta gamma x y s ≡ num) ↔ (search_refusal delta gamma x y ≡ num)
  unfolding check_refusal search_refusal
  as_search num some other = ahead (search_reasons delta gamma x y) (no_window (length x) (length y) s ∷ []) num some (not_six num (length x) (length y) s other)

  -- "6 is also given for an s that has no window, after 3": and no reason before it applies
  pub check_six_exactly : (check_refusal delta gamma x y s ≡ 6) ↔ (Accepted delta gamma x y × (length y < s + length x))
  unfolding check_refusal of_window
  check_six_exactly =
      Iff.trans (behind (search_reasons delta gamma x y) (no_window (length x) (length y) s ∷ []) 6 refl)
      (Iff.and (search_spared delta gamma x y) (window_six_exactly (length x) (length y) s))

  -- accepted otherwise
  pub check_none_exactly : (check_refusal delta gamma x y s ≡ 0) ↔ CheckAsked delta gamma x y s
  unfolding check_refusal
  check_none_exactly =
      Iff.trans (zero_exactly (check_reasons delta gamma x y s) refl)
      (Iff.trans (none_both (search_reasons delta gamma x y) (no_window (length x) (length y) s ∷ []))
      (Iff.trans (Iff.and (search_spared delta gamma x y) (one_spared (no_window (length x) (length y) s) (no_window_exactly (length x) (length y) s))) (
        λ h. record { ok = h.0; inside = at_most (s + length x) (length y) h.1 },
        λ known. (known.ok, λ l. omega (arith, known.inside)),
      )))

  -- the first reason in the written order, whichever it is
  pub check_in_order : (num : ℕ) → 1 ≤ num → (check_refusal delta gamma x y s ≡ num) ↔ FirstInOrder (check_reasons delta gamma x y s) num
  unfolding check_refusal
  check_in_order = in_order (check_reasons delta gamma x y s)

  -- as code has it
  check_joined : check_refusal delta gamma x y s ≡ or_else (search_refusal delta gamma x y) (of_window (length x) (length y) s)
  unfolding check_refusal search_refusal of_window
  check_joined = joined (search_reasons delta gamma x y) (no_window (length x) (length y) s ∷ []) refl

  -- past the refusals of a search the window decides
  pub check_late : search_refusal delta gamma x y ≡ 0 → (k : ℕ) → k ≡ of_window (length x) (length y) s → k ≡ check_refusal delta gamma x y s
  check_late none k h = told_later _ _ _ k check_joined none h

  pub check_first : (e : Refusal) → number_of e ≡ search_refusal delta gamma x y → number_of e ≡ check_refusal delta gamma x y s
  check_first e h = told_first _ _ _ e check_joined h

-- what the question knows past its refusals
pub record CheckPosed (delta gamma : ℕ) (x y : List ℕ) (s : ℕ) (q : Checked) : Type 0 where
  pub known : CheckAsked delta gamma x y s
  pub carries : Carries delta gamma x q

pub check_posed : (delta gamma : ℕ) (x y : List ℕ) (s : ℕ) {q : Checked} → (search_refusal delta gamma x y ≡ 0) × Carries delta gamma x q
    → 0 ≡ of_window (length x) (length y) s → CheckPosed delta gamma x y s q
check_posed delta gamma x y s e w =
    record { known = (check_none_exactly delta gamma x y s).0 (sym (check_late delta gamma x y s e.0 0 w)); carries = e.1 }

-- the spans that its profile is compiled to serve the window check, and this answers what the definition says
module _ {delta gamma : ℕ} {x y : List ℕ} {s : ℕ} {q : Checked} (p : CheckPosed delta gamma x y s q) {d : ℕ} {spans : List ℕ}
    (small : d ≡ d_of q.tolerance.delta q.tolerance.gamma) (made : spans ≡ spans_of d (points_of q.profile)) where
  own : spans ≡ spans_of (d_of delta gamma) x
  own = told_spans delta gamma x p.carries small made

  pub check_ready : (length x ≤ max_points) × (s + length x ≤ length y)
  check_ready = (p.known.ok.asked.few, p.known.inside)

  pub check_told : (m : ℕ) → m ≡ q.profile.m → (v : Verdict) → told_of v ≡ verdict_by (rule_in spans) m gamma y s → told_of v ≡ verdict_of delta gamma x y s
  check_told m e v t = rw (e ∙ p.carries.profile.m_is) at t ∙ compiled_verdict delta gamma x spans own p.known.ok.asked.few y s

-- ---- as the code answers: refused, and not
pub check_refused : (num : ℕ) (e : Refusal) (t : Told) → number_of e ≡ num → told_all (Err e) ≡ check_answer num t
unfolding check_answer
check_refused zero e t h = absurd (omega (arith, number_some e, h))
check_refused (suc num) e t h = rw h

-- handed on
pub check_handed : (num : ℕ) (r : Result Verdict Refusal) (e : Refusal) (t : Told) → IsErrAnd r (λ d. d ≡ e) → number_of e ≡ num → told_all r ≡ check_answer num t
check_handed num r e t q h = let p = err_from_is_err_and r q in rw (p.1, p.2) (check_refused num e t h)

pub check_granted : (num : ℕ) (v : Verdict) (t : Told) → num ≡ 0 → told_of v ≡ t → told_all (Ok v) ≡ check_answer num t
unfolding check_answer
check_granted num v t z q = rw (z, q)

-- ---- what the answer r says
ok_same : {v v' : Verdict} → ◌≡◌ {A = Result Verdict Refusal} (Ok v) (Ok v') → v ≡ v'
ok_same e = cc

all_only : (r r' : Result Verdict Refusal) → told_all r ≡ told_all r' → r ≡ r'
all_only (Ok v) (Ok v') e =
    ap (λ u. Ok u) (told_only v v' (ap (λ (f : FlatVerdict). record { kind = f.kind; point = f.point; sum = f.sum }) e))
all_only (Ok v) (Err d') e = absurd (omega (arith, number_some d', ap (λ (f : FlatVerdict). f.refusal) e))
all_only (Err d) (Ok v') e = absurd (omega (arith, number_some d, ap (λ (f : FlatVerdict). f.refusal) e))
all_only (Err d) (Err d') e = ap (λ u. Err u) (number_only d d' (ap (λ (f : FlatVerdict). f.refusal) e))

-- there is no second answer
pub no_second_judged : (definition : FlatVerdict) (r r' : Result Verdict Refusal) → told_all r ≡ definition → told_all r' ≡ definition → r ≡ r'
no_second_judged definition r r' e e' = all_only r r' (e ∙ sym e')

module _ (delta gamma : ℕ) (x y : List ℕ) (s : ℕ) (r : Result Verdict Refusal) (a : told_all r ≡ check_answer (check_refusal delta gamma x y s) (verdict_of delta gamma x y s)) where
  -- refused: by the refusal that has the number; in numbers, that number and a point 0 that is far
  pub refused_none : (num : ℕ) → check_refusal delta gamma x y s ≡ suc num
      → (e : Refusal) × (r ≡ Err e) × (number_of e ≡ suc num) × (told_all r ≡ told_by (suc num) (far_at 0))
  unfolding check_answer
  refused_none num e = by_result r refl
    where
      by_result : (q : Result Verdict Refusal) → r ≡ q → (d : Refusal) × (r ≡ Err d) × (number_of d ≡ suc num) × (told_all r ≡ told_by (suc num) (far_at 0))
      by_result (Ok v) is = absurd (omega (arith, ap (λ (f : FlatVerdict). f.refusal) (rw (is, e) at a)))
      by_result (Err d) is = (d, is, ap (λ (f : FlatVerdict). f.refusal) (rw (is, e) at a), rw e at a)

  module _ (known : CheckAsked delta gamma x y s) where
    granted : told_all r ≡ record { refusal = 0; kind = (verdict_of delta gamma x y s).kind; point = (verdict_of delta gamma x y s).point; sum = (verdict_of delta gamma x y s).sum }
    unfolding check_answer
    granted = rw ((check_none_exactly delta gamma x y s).1 known) at a

    -- not refused: a verdict, which is the definition's; in numbers, 0 beside it
    pub granted_none : (v : Verdict) × (r ≡ Ok v) × (told_of v ≡ verdict_of delta gamma x y s) × ((told_all r).refusal ≡ 0)
    granted_none = by_result r refl
      where
        by_result : (q : Result Verdict Refusal) → r ≡ q → (v : Verdict) × (r ≡ Ok v) × (told_of v ≡ verdict_of delta gamma x y s) × ((told_all r).refusal ≡ 0)
        by_result (Ok v) is =
            (v, is, ap (λ (f : FlatVerdict). record { kind = f.kind; point = f.point; sum = f.sum }) (rw is at granted), ap (λ (f : FlatVerdict). f.refusal) granted)
        by_result (Err d) is = absurd (omega (arith, number_some d, ap (λ (f : FlatVerdict). f.refusal) (rw is at granted)))

    abbrev verdict : Verdict
    verdict = granted_none.0

    by_case : (case : Verdict) (t : Told) {A : Type 0} → told_of case ≡ t → (verdict_of delta gamma x y s ≡ t) ↔ A → (r ≡ Ok case) ↔ A
    by_case case t e f = (
      λ q. f.0 (sym granted_none.2 ∙ ap told_of (ok_same (sym granted_none.1 ∙ q)) ∙ e),
      λ h. granted_none.1 ∙ ap (λ u. Ok u) (told_only verdict case (granted_none.2 ∙ f.1 h ∙ sym e)),
    )

    -- "fits, with its sum": exactly where s is a place, and the sum is the window's
    pub fits_is : (v : ℕ) → (r ≡ Ok (Fits v)) ↔ (Place delta gamma x y s × (sum_diff x y s ≡ v))
    fits_is v = by_case (Fits v) (fits_with v) (told_fits v) (fits_place delta gamma x y s known.inside v)

    -- "the first point, in point order, that isn't near"
    pub far_is : (p : ℕ) → (r ≡ Ok (Far p)) ↔ BreaksAt (fit_of (d_of delta gamma) x) y s (length x) p
    far_is p = by_case (Far p) (far_at p) (told_far p) (far_first delta gamma x y s p)

    -- "if all are near, the sum that exceeds g"
    abbrev EachNear : Type 0
    EachNear = (i : ℕ) → i < length x → near (d_of delta gamma) (get_or x i 0) (reading_at y s i) ≡ true

    pub over_is : (v : ℕ) → (r ≡ Ok (Over v)) ↔ (EachNear × (g_of (length x) delta gamma < sum_diff x y s) × (sum_diff x y s ≡ v))
    over_is v = by_case (Over v) (over_with v) (told_over v) (over_sum delta gamma x y s v)

    -- so a window that no search lists is told its course or, where all its courses are near, its sum
    abbrev Reason : Type 0
    Reason = BreaksAt (fit_of (d_of delta gamma) x) y s (length x) (told_of verdict).point
        ⊎ (EachNear × (g_of (length x) delta gamma < sum_diff x y s) × (sum_diff x y s ≡ (told_of verdict).sum))

    pub why_missing : (Memᴰ s (places delta gamma x y) → ⊥) → Reason
    why_missing none = by_verdict verdict granted_none.1 refl
      where
        by_verdict : (v : Verdict) → r ≡ Ok v → verdict ≡ v → Reason
        by_verdict (Fits v) q e = absurd (none (place_in delta gamma x y s ((fits_is v).0 q).0))
        by_verdict (Far p) q e = inl (rw (e, told_far p) ((far_is p).0 q))
        by_verdict (Over v) q e = let o = (over_is v).0 q in inr (o.0, o.1, rw (e, told_over v) o.2)
