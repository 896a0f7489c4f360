-- Laws of the window check's answer: what each case says, that no window has two, and how the check comes by it. Assumes nothing.
use mathlib.Core.Path.{◌≡◌, refl, sym, ap, ap₂, ◌∙◌}
use mathlib.Core.Bool.{Bool, true, false, cond}
use mathlib.Core.List.{List}
use mathlib.Core.Logic.{◌⊎◌, inl, inr, ⊎_elim, ◌↔◌}
use Prim.Native.Nat.{ℕ, zero, suc, ◌+◌, ◌-◌, ◌≤◌, ◌<◌}
use native.Mathlib.Nat.{not-suc-le-zero, eq-or-lt_of_le, le_of_suc-le-suc}
use native.Mathlib.Omega.{arith}
use lib.ListN.{length, get_or}
use lib.Dec.{leb, eqb}
use borrow.Author.Tests.{leb-true, leb-false, le-leb, lt-leb}
use Rattle.fit.specs.Reading.{near}
use Rattle.fit.specs.Rule.{Rule, reading_at, all_fit, sum_cost, is_place_by, cut_at, SameRule}
use Rattle.fit.specs.Place.{fit_of, cost_of, rule_of, sum_diff, Place, d_of, g_of}
use Rattle.fit.specs.Refusal.{or_else}
use Rattle.fit.specs.Verdict.{Told, far_at, fits_with, over_with, told_of, broken_at, BreaksAt, judged, verdict_by, verdict_of}
use Rattle.fit.specs.declared.verdict.Verdict.{Verdict}
use Rattle.fit.specs.declared.verdict.Verdict.TheVariants.{Fits, Far, Over}
use Rattle.fit.proofs.Laws.Bools.{not_both, same_test}
use Rattle.fit.proofs.Laws.Readings.{near_le}
use Rattle.fit.proofs.Laws.Rules.{Matched, fit_none, fit_at, fit_all, sum_same, sum_bound, by_is, by_fit, by_within}
use Rattle.fit.proofs.Laws.Places.{place_by, by_place, by_derived, derived_rule}

-- ---- the first far point
-- of one point more: none, and the first
no_more : (far k : ℕ) (b : Bool) → or_else far (cond b 0 (suc k)) ≡ 0 → (far ≡ 0) × (b ≡ true)
unfolding or_else
no_more zero k true e = (refl, refl)
no_more zero k false e = absurd (omega (arith, e))
no_more (suc far) k b e = absurd (omega (arith, e))

one_more : (far k p : ℕ) (b : Bool) → or_else far (cond b 0 (suc k)) ≡ suc p → (far ≡ suc p) ⊎ ((far ≡ 0) × (b ≡ false) × (k ≡ p))
unfolding or_else
one_more zero k p true e = absurd (omega (arith, e))
one_more zero k p false e = inr (refl, refl, omega (arith, e))
one_more (suc far) k p b e = inl e

module _ (fit : ℕ → ℕ → Bool) (y : List ℕ) (s : ℕ) where
  none_far : (k : ℕ) → all_fit fit y s k ≡ true → broken_at fit y s k ≡ 0
  unfolding broken_at or_else
  none_far zero e = refl
  none_far (suc k) e =
      let before : all_fit fit y s k ≡ true = fit_all fit y s k (λ i l. fit_at fit y s (suc k) e i (omega arith)) in
      rw (none_far k before, fit_at fit y s (suc k) e k (omega arith))

  far_none : (k : ℕ) → broken_at fit y s k ≡ 0 → all_fit fit y s k ≡ true
  unfolding broken_at
  far_none zero e = fit_none fit y s
  far_none (suc k) e =
      let both = no_more (broken_at fit y s k) k (fit k (reading_at y s k)) e in
      fit_all fit y s (suc k)
      (λ i l. ⊎_elim (λ (q : i ≡ k). rw q both.1) (λ (q : i < k). fit_at fit y s k (far_none k both.0) i q) (eq-or-lt_of_le (le_of_suc-le-suc l)))

  broken_there : (m i : ℕ) → i < m → all_fit fit y s i ≡ true → fit i (reading_at y s i) ≡ false → broken_at fit y s m ≡ suc i
  unfolding broken_at or_else
  broken_there zero i h f e = absurd (not-suc-le-zero h)
  broken_there (suc m) i h f e =
      ⊎_elim (λ (q : i ≡ m). rw (← q, none_far i f, e)) (λ (l : i < m). rw (broken_there m i l f e)) (eq-or-lt_of_le (le_of_suc-le-suc h))

  far_breaks : (m p : ℕ) → broken_at fit y s m ≡ suc p → BreaksAt fit y s m (suc p)
  unfolding broken_at
  far_breaks zero p e = absurd (omega (arith, e))
  far_breaks (suc m) p e =
      ⊎_elim
      (λ q. let b = far_breaks m p q in
      record { from_one = b.from_one; to_last = omega (arith, b.to_last); far = b.far; before = b.before })
      (λ q. record {
        from_one = omega arith;
        to_last = omega (arith, q.2);
        far = let own : suc p - 1 ≡ m = omega (arith, q.2) in rw own q.1;
        before = λ i l. fit_at fit y s m (far_none m q.0) i (omega (arith, q.2));
      })
      (one_more (broken_at fit y s m) m p (fit m (reading_at y s m)) e)

  breaks_far : (m p : ℕ) → BreaksAt fit y s m p → broken_at fit y s m ≡ p
  breaks_far m zero b = absurd (omega (arith, b.from_one))
  breaks_far m (suc p) b = broken_there m p (omega (arith, b.to_last)) (fit_all fit y s p (λ i l. b.before i (omega arith))) (let own : suc p - 1 ≡ p = omega arith in rw own at b.far)

-- ---- the answer, by the first far point and the sum
judged_fits : (far sum g v : ℕ) → (judged far sum g ≡ fits_with v) ↔ ((far ≡ 0) × (sum ≤ g) × (sum ≡ v))
unfolding judged
judged_fits zero sum g v = (by_sum (leb sum g) refl, λ h. rw (le-leb sum g h.1, h.2))
  where
    by_sum : (b : Bool) → leb sum g ≡ b → cond b (fits_with sum) (over_with sum) ≡ fits_with v → (◌≡◌ {A = ℕ} 0 0) × (sum ≤ g) × (sum ≡ v)
    by_sum true t e = (refl, leb-true sum g t, ap (λ (k : Told). k.sum) e)
    by_sum false t e = absurd (omega (arith, ap (λ (k : Told). k.kind) e))
judged_fits (suc p) sum g v = (λ e. absurd (omega (arith, ap (λ (k : Told). k.kind) e)), λ h. absurd (omega (arith, h.0)))

judged_over : (far sum g v : ℕ) → (judged far sum g ≡ over_with v) ↔ ((far ≡ 0) × (g < sum) × (sum ≡ v))
unfolding judged
judged_over zero sum g v = (by_sum (leb sum g) refl, λ h. rw (lt-leb sum g h.1, h.2))
  where
    by_sum : (b : Bool) → leb sum g ≡ b → cond b (fits_with sum) (over_with sum) ≡ over_with v → (◌≡◌ {A = ℕ} 0 0) × (g < sum) × (sum ≡ v)
    by_sum true t e = absurd (omega (arith, ap (λ (k : Told). k.kind) e))
    by_sum false t e = (refl, leb-false sum g t, ap (λ (k : Told). k.sum) e)
judged_over (suc p) sum g v = (λ e. absurd (omega (arith, ap (λ (k : Told). k.kind) e)), λ h. absurd (omega (arith, h.0)))

judged_far : (far sum g p : ℕ) → (judged far sum g ≡ far_at p) ↔ ((1 ≤ p) × (far ≡ p))
unfolding judged
judged_far zero sum g p = (by_sum (leb sum g), λ h. absurd (omega (arith, h.0, h.1)))
  where
    by_sum : (b : Bool) → cond b (fits_with sum) (over_with sum) ≡ far_at p → (1 ≤ p) × (◌≡◌ {A = ℕ} 0 p)
    by_sum true e = absurd (omega (arith, ap (λ (k : Told). k.kind) e))
    by_sum false e = absurd (omega (arith, ap (λ (k : Told). k.kind) e))
judged_far (suc far) sum g p = (λ e. let q = ap (λ (k : Told). k.point) e in (omega (arith, q), q), λ h. rw h.1)

-- ---- what each case says, under any rule
module _ (r : Rule) (m g : ℕ) (y : List ℕ) (s : ℕ) where
  -- "fits, with its sum": exactly where s is a place
  pub fits_exactly : s + m ≤ length y → (v : ℕ) → (verdict_by r m g y s ≡ fits_with v) ↔ ((is_place_by r m g y s ≡ true) × (sum_cost r.cost y s m ≡ v))
  unfolding verdict_by
  fits_exactly inside v = (
    λ e. let h = (judged_fits _ _ g v).0 e in (by_is r m g y s inside (far_none r.fit y s m h.0) h.1, h.2),
    λ h. (judged_fits _ _ g v).1 (none_far r.fit y s m (fit_all r.fit y s m (by_fit r m g y s h.0)), by_within r m g y s h.0, h.1),
  )

  -- "the first point, in point order, that isn't near"
  pub far_exactly : (p : ℕ) → (verdict_by r m g y s ≡ far_at p) ↔ BreaksAt r.fit y s m p
  unfolding verdict_by
  far_exactly zero = (λ e. absurd (omega (arith, ((judged_far _ _ g 0).0 e).0)), λ b. absurd (omega (arith, b.from_one)))
  far_exactly (suc p) = (
    λ e. far_breaks r.fit y s m p ((judged_far _ _ g (suc p)).0 e).1,
    λ b. (judged_far _ _ g (suc p)).1 (b.from_one, breaks_far r.fit y s m (suc p) b),
  )

  -- "if all are near, the sum that exceeds g"
  pub over_exactly : (v : ℕ) → (verdict_by r m g y s ≡ over_with v) ↔ ((all_fit r.fit y s m ≡ true) × (g < sum_cost r.cost y s m) × (sum_cost r.cost y s m ≡ v))
  unfolding verdict_by
  over_exactly v = (
    λ e. let h = (judged_over _ _ g v).0 e in (far_none r.fit y s m h.0, h.1, h.2),
    λ h. (judged_over _ _ g v).1 (none_far r.fit y s m h.0, h.1, h.2),
  )

-- ---- the numbers of each case
pub told_fits : (v : ℕ) → told_of (Fits v) ≡ fits_with v
unfolding told_of
told_fits v = refl

pub told_far : (p : ℕ) → told_of (Far p) ≡ far_at p
unfolding told_of
told_far p = refl

pub told_over : (v : ℕ) → told_of (Over v) ≡ over_with v
unfolding told_of
told_over v = refl

-- no second verdict: number and values tell the case
pub told_only : (v v' : Verdict) → told_of v ≡ told_of v' → v ≡ v'
unfolding told_of
told_only (Fits a) (Fits b) e = ap Fits (ap (λ (k : Told). k.sum) e)
told_only (Fits a) (Far b) e = absurd (omega (arith, ap (λ (k : Told). k.kind) e))
told_only (Fits a) (Over b) e = absurd (omega (arith, ap (λ (k : Told). k.kind) e))
told_only (Far a) (Fits b) e = absurd (omega (arith, ap (λ (k : Told). k.kind) e))
told_only (Far a) (Far b) e = ap Far (ap (λ (k : Told). k.point) e)
told_only (Far a) (Over b) e = absurd (omega (arith, ap (λ (k : Told). k.kind) e))
told_only (Over a) (Fits b) e = absurd (omega (arith, ap (λ (k : Told). k.kind) e))
told_only (Over a) (Far b) e = absurd (omega (arith, ap (λ (k : Told). k.kind) e))
told_only (Over a) (Over b) e = ap Over (ap (λ (k : Told). k.sum) e)

pub no_second_verdict : (definition : Told) (v v' : Verdict) → told_of v ≡ definition → told_of v' ≡ definition → v ≡ v'
no_second_verdict definition v v' e e' = told_only v v' (e ∙ sym e')

-- ---- how the check comes by it: after i points that suit, with the sum so far
module _ (r : Rule) (m g : ℕ) (y : List ℕ) (s each : ℕ) where
  pub tells_far : (i : ℕ) {sum : ℕ} → i < m → Matched r y s i sum each → r.fit i (reading_at y s i) ≡ false → told_of (Far (i + 1)) ≡ verdict_by r m g y s
  unfolding told_of verdict_by
  tells_far i h f e =
      let p : broken_at r.fit y s m ≡ i + 1 = omega (arith, broken_there r.fit y s m i h f.fits e) in
      sym ((judged_far _ _ g (i + 1)).1 (omega arith, p))

  pub tells_fits : (k sum : ℕ) → k ≡ m → Matched r y s k sum each → sum ≤ g → told_of (Fits sum) ≡ verdict_by r m g y s
  unfolding told_of verdict_by
  tells_fits k sum q f h =
      sym ((judged_fits _ _ g sum).1 (none_far r.fit y s m (rw q at f.fits), rw (← q, ← f.sums) h, rw (← q) (sym f.sums)))

  pub tells_over : (k sum : ℕ) → k ≡ m → Matched r y s k sum each → g < sum → told_of (Over sum) ≡ verdict_by r m g y s
  unfolding told_of verdict_by
  tells_over k sum q f h =
      sym ((judged_over _ _ g sum).1 (none_far r.fit y s m (rw q at f.fits), rw (← q, ← f.sums) h, rw (← q) (sym f.sums)))

-- ---- whether a point is far, and the sum that is told where none is
judged_near : (far sum g : ℕ) → far ≡ 0 → (eqb (judged far sum g).kind 0 ≡ false) × ((judged far sum g).sum ≡ sum)
unfolding judged
judged_near zero sum g z = by_sum (leb sum g)
  where
    by_sum : (b : Bool) → (eqb (cond b (fits_with sum) (over_with sum)).kind 0 ≡ false) × ((cond b (fits_with sum) (over_with sum)).sum ≡ sum)
    by_sum true = (refl, refl)
    by_sum false = (refl, refl)
judged_near (suc far) sum g z = absurd (omega (arith, z))

judged_broken : (far sum g : ℕ) → (far ≡ 0 → ⊥) → eqb (judged far sum g).kind 0 ≡ true
unfolding judged
judged_broken zero sum g h = absurd (h refl)
judged_broken (suc far) sum g h = refl

module _ (r : Rule) (m g : ℕ) (y : List ℕ) (s : ℕ) where
  pub told_near : all_fit r.fit y s m ≡ true → (eqb (verdict_by r m g y s).kind 0 ≡ false) × ((verdict_by r m g y s).sum ≡ sum_cost r.cost y s m)
  unfolding verdict_by
  told_near e = judged_near (broken_at r.fit y s m) (sum_cost r.cost y s m) g (none_far r.fit y s m e)

  pub told_broken : all_fit r.fit y s m ≡ false → eqb (verdict_by r m g y s).kind 0 ≡ true
  unfolding verdict_by
  told_broken e = judged_broken (broken_at r.fit y s m) (sum_cost r.cost y s m) g (λ z. not_both (far_none r.fit y s m z) e)

-- ---- the sum and its bound tell only where no point is far
judged_same : (far sum sum' g g' : ℕ) → (far ≡ 0 → (sum ≡ sum') × (leb sum g ≡ leb sum' g')) → judged far sum g ≡ judged far sum' g'
unfolding judged
judged_same zero sum sum' g g' h = let same = h refl in rw (same.1, same.0)
judged_same (suc far) sum sum' g g' h = refl

-- rules that ask the same have the same verdicts
broken_same : (fit fit' : ℕ → ℕ → Bool) (y : List ℕ) (s m : ℕ) → ((i : ℕ) → i < m → fit i (reading_at y s i) ≡ fit' i (reading_at y s i))
    → broken_at fit y s m ≡ broken_at fit' y s m
unfolding broken_at
broken_same fit fit' y s zero h = refl
broken_same fit fit' y s (suc m) h =
    ap₂ (λ (far : ℕ) (b : Bool). or_else far (cond b 0 (suc m))) (broken_same fit fit' y s m (λ i l. h i (omega arith))) (h m (omega arith))

pub same_verdict : (m : ℕ) (r r' : Rule) → SameRule m r r' → (g : ℕ) (y : List ℕ) (s : ℕ) → verdict_by r m g y s ≡ verdict_by r' m g y s
unfolding verdict_by
same_verdict m r r' q g y s =
    judged_same (broken_at r.fit y s m) (sum_cost r.cost y s m) (sum_cost r'.cost y s m) g g
    (λ z. let e = sum_same r.cost r'.cost y s m (λ i l. q.same_cost i (reading_at y s i) l (fit_at r.fit y s m (far_none r.fit y s m z) i l)) in
    (e, ap (λ (k : ℕ). leb k g) e))
    ∙ ap (λ (far : ℕ). judged far (sum_cost r'.cost y s m) g) (broken_same r.fit r'.fit y s m (λ i l. q.same_fit i (reading_at y s i) l))

-- ---- an ordinary profile
module _ (delta gamma : ℕ) (x y : List ℕ) (s : ℕ) where
  -- where all are near, a sum exceeds g exactly where it exceeds gamma
  pub verdict_derived : verdict_by (rule_of (d_of delta gamma) x) (length x) gamma y s ≡ verdict_of delta gamma x y s
  unfolding verdict_by
  verdict_derived =
      judged_same (broken_at (fit_of (d_of delta gamma) x) y s (length x)) (sum_diff x y s) (sum_diff x y s) gamma (g_of (length x) delta gamma)
      (λ z. let most = sum_bound (cost_of x) y s (length x) (d_of delta gamma)
      (λ i l. near_le (d_of delta gamma) (get_or x i 0) (reading_at y s i) (fit_at (fit_of (d_of delta gamma) x) y s (length x) (far_none _ y s (length x) z) i l)) in (
        refl,
        same_test (leb (sum_diff x y s) gamma) (leb (sum_diff x y s) (g_of (length x) delta gamma))
            (λ t. le-leb (sum_diff x y s) (g_of (length x) delta gamma) (omega (arith, most, leb-true (sum_diff x y s) gamma t)))
            (λ t. le-leb (sum_diff x y s) gamma (omega (arith, leb-true (sum_diff x y s) (g_of (length x) delta gamma) t))),
      ))

  -- it is the profile's own rule, cut at gamma, that the verdict is by
  pub verdict_cut : verdict_of delta gamma x y s ≡ verdict_by (cut_at gamma (rule_of delta x)) (length x) gamma y s
  verdict_cut = sym verdict_derived ∙ same_verdict (length x) (rule_of (d_of delta gamma) x) (cut_at gamma (rule_of delta x)) (derived_rule delta gamma x) gamma y s

  -- fits, exactly where s is a place, and tells the window's sum
  pub fits_place : s + length x ≤ length y → (v : ℕ) → (verdict_of delta gamma x y s ≡ fits_with v) ↔ (Place delta gamma x y s × (sum_diff x y s ≡ v))
  fits_place inside v =
      let f = fits_exactly (rule_of (d_of delta gamma) x) (length x) gamma y s inside v in (
        λ e. let h = f.0 (verdict_derived ∙ e) in (by_place delta gamma x y s (sym (by_derived delta gamma x y s) ∙ h.0), h.1),
        λ h. sym verdict_derived ∙ f.1 (by_derived delta gamma x y s ∙ place_by delta gamma x y s h.0, h.1),
      )

  -- far at p, exactly where p is the first point that is not near
  pub far_first : (p : ℕ) → (verdict_of delta gamma x y s ≡ far_at p) ↔ BreaksAt (fit_of (d_of delta gamma) x) y s (length x) p
  far_first = far_exactly (rule_of (d_of delta gamma) x) (length x) (g_of (length x) delta gamma) y s

  -- over, exactly where all are near and the sum exceeds g, and tells the sum
  pub over_sum : (v : ℕ) → (verdict_of delta gamma x y s ≡ over_with v)
      ↔ (((i : ℕ) → i < length x → near (d_of delta gamma) (get_or x i 0) (reading_at y s i) ≡ true) × (g_of (length x) delta gamma < sum_diff x y s) × (sum_diff x y s ≡ v))
  over_sum v =
      let o = over_exactly (rule_of (d_of delta gamma) x) (length x) (g_of (length x) delta gamma) y s v in (
        λ e. let h = o.0 e in (fit_at (fit_of (d_of delta gamma) x) y s (length x) h.0, h.1, h.2),
        λ h. o.1 (fit_all (fit_of (d_of delta gamma) x) y s (length x) h.0, h.1, h.2),
      )
