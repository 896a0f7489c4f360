-- A rule that looks at one position: both halves of demand 3, with no premise on gamma. Assumes nothing.
use Prim.Native.Nat.{ℕ, zero, suc, ◌+◌, ◌-◌, ◌≤◌, ◌<◌}
use mathlib.Core.Path.{◌≡◌, refl, sym, ap, subst, ◌∙◌}
use mathlib.Core.Bool.{Bool, true, cond}
use mathlib.Core.List.{List}
use native.Mathlib.Decide.{ℕ_discrete}
use native.Mathlib.Omega.{arith}
use lib.Dec.{leb, eqb}
use borrow.Author.Tests.{eq-eqb, ne_eqb, leb-true}
use Rattle.fit.specs.Reading.{highest}
use Rattle.fit.specs.Rule.{Rule, reading_at, near_by}
use Rattle.fit.specs.Refusal.{max_readings}
use Rattle.fit.proofs.Laws.Bools.{and_left, and_right, not_both}
use Rattle.jumps.specs.Least.{greatest}
use Rattle.jumps.specs.Demand.{Passed, Seen, Reaches}
use Rattle.jumps.proofs.Laws.Leasts.{greatest_le, greatest_holds, greatest_none}
use Rattle.jumps.proofs.Laws.Frame.{Home, Some, Meet, PlaceBy, clash, built, sum_single}

-- the position is q, of w readings; the rule looks at the first n points, and its jump is q + 1 less the number of the greatest that passes
module _ (r : Rule) (m gamma q w n from top : ℕ) (A : ℕ → Type 0) (ok : ℕ → Bool)
    (inside : q < w) (few : n ≤ m) (tops : top ≡ suc q) (froms : from + n ≡ top) where
  abbrev At : ℕ → ℕ → Type 0
  At j c = j ≡ q → A c

  module _ (sound : (i c : ℕ) → i < n → A c → near_by r gamma i c ≡ true → ok i ≡ true) where
    -- no passed window is a place, whatever values the recording has
    pub single_passes : (y : List ℕ) (s t : ℕ) → Seen (λ j c. j ≡ q → A c) w y s → Passed from (top - greatest ok n) s t → PlaceBy r m gamma y t → ⊥
    single_passes y s t e p place =
        not_both (sound i (reading_at y s q) (omega (arith, p.since, p.before)) (both.0 refl) both.1)
        (greatest_none ok n i (omega (arith, p.since, p.before)) (omega (arith, p.since, p.before)))
      where
        i : ℕ
        i = s + q - t

        both : At q (reading_at y s q) × (near_by r gamma i (reading_at y s q) ≡ true)
        both = clash r m gamma At w y s t q i e place (omega (arith, p.since, p.before)) inside (omega (arith, p.since, p.before))

  module _ (h : Home r m) (short : w + (top + m) ≤ max_readings) where
    -- the reading v at position q, and elsewhere what stands for nothing where the jump lands
    with_v : (k v : ℕ) → k ≤ top → v ≤ highest → A v → ((i : ℕ) → i < m → k + i ≡ q → near_by r gamma i v ≡ true) → Reaches (PlaceBy r m gamma) (Seen At w) k
    with_v k v within byte seen near =
        built r m gamma At w c k (omega arith) (λ j. bytes j (ℕ_discrete j q)) (λ j l e. subst A (sym (here j e)) seen) (λ i l. fits i l (ℕ_discrete (k + i) q))
        (λ y t on. sum_single r.cost y t (q - k) gamma m
        (λ i l other. ap (r.cost i) (on i l) ∙ free i l (λ e. other (omega arith)))
        (λ i l e. subst (λ (a : ℕ). r.cost i a ≤ gamma) (sym (on i l)) (dear i l (ℕ_discrete (k + i) q))))
      where
        c : ℕ → ℕ
        c j = cond (eqb j q) v (h.home (j - k))

        here : (j : ℕ) → j ≡ q → c j ≡ v
        here j e = ap (λ (b : Bool). cond b v (h.home (j - k))) (eq-eqb j q e)

        there : (j : ℕ) → (j ≡ q → ⊥) → c j ≡ h.home (j - k)
        there j e = ap (λ (b : Bool). cond b v (h.home (j - k))) (ne_eqb j q e)

        at : (i : ℕ) → (k + i ≡ q → ⊥) → c (k + i) ≡ h.home i
        at i e = let b : k + i - k ≡ i = omega arith in there (k + i) e ∙ ap h.home b

        bytes : (j : ℕ) → Dec (j ≡ q) → c j ≤ highest
        bytes j (yes e) = subst (λ (a : ℕ). a ≤ highest) (sym (here j e)) byte
        bytes j (no e) = subst (λ (a : ℕ). a ≤ highest) (sym (there j e)) (h.byte (j - k))

        fits : (i : ℕ) → i < m → Dec (k + i ≡ q) → r.fit i (c (k + i)) ≡ true
        fits i l (yes e) = ap (r.fit i) (here (k + i) e) ∙ and_left (r.fit i v) (leb (r.cost i v) gamma) (near i l e)
        fits i l (no e) = ap (r.fit i) (at i e) ∙ h.fits i l

        free : (i : ℕ) → i < m → (k + i ≡ q → ⊥) → r.cost i (c (k + i)) ≡ 0
        free i l e = ap (r.cost i) (at i e) ∙ h.free i l

        dear : (i : ℕ) → i < m → Dec (k + i ≡ q) → r.cost i (c (k + i)) ≤ gamma
        dear i l (yes e) =
            subst (λ (a : ℕ). r.cost i a ≤ gamma) (sym (here (k + i) e))
            (leb-true (r.cost i v) gamma (and_right (r.fit i v) (leb (r.cost i v) gamma) (near i l e)))
        dear i l (no e) = omega (arith, free i l e)

    pub single_short : ((i : ℕ) → i < n → ok i ≡ true → Meet r gamma i A) → Some A → Reaches (PlaceBy r m gamma) (Seen (λ j c. j ≡ q → A c) w) (top - greatest ok n)
    single_short meet any = go (greatest ok n) refl
      where
        go : (g : ℕ) → greatest ok n ≡ g → Reaches (PlaceBy r m gamma) (Seen At w) (top - g)
        go zero e = with_v (top - 0) any.c (omega arith) any.byte any.seen (λ i l b. absurd (omega arith))
        go (suc g) e =
            let f = meet g (omega (arith, greatest_le ok n)) (greatest_holds ok n g e) in
            with_v (top - suc g) f.c (omega arith) f.byte f.seen
            (λ i l b. let s : g ≡ i = omega (arith, greatest_le ok n) in subst (λ (j : ℕ). near_by r gamma j f.c ≡ true) s f.near)
