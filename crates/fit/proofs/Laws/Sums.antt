-- Laws of sums that are kept with the places, and of the least of them. Assumes nothing.
use mathlib.Core.Path.{◌≡◌, refl, sym, ap, ap₂, ◌∙◌}
use mathlib.Core.Logic.{◌⊎◌, inl, inr, ⊎_elim, ◌↔◌}
use mathlib.Core.List.Memᴰ
use mathlib.Core.List.{List, [], ◌∷◌, ◌++◌, map, Memᴰ}
use Prim.Native.Nat.{ℕ, zero, suc, ◌≤◌, ◌<◌, min}
use native.Mathlib.Nat.{not-suc-le-zero, le_of_suc-le-suc}
use native.Mathlib.Omega.{arith}
use lib.ListN.{length, get_or}
use Rattle.fit.specs.Sums.{least_of, lowered}
use Rattle.fit.specs.Listing.{overlay}

-- ---- the sums of some places
-- tests that give each of them the same sum
pub sums_same : (f g : ℕ → ℕ) (ps : List ℕ) → ((s : ℕ) → Memᴰ s ps → f s ≡ g s) → map f ps ≡ map g ps
sums_same f g [] h = refl
sums_same f g (s ∷ ps) h =
    ap₂ (λ (v : ℕ) (vs : List ℕ). v ∷ vs) (h s (Memᴰ.head refl)) (sums_same f g ps (λ a m. h a (Memᴰ.tail m)))

-- two lists beside each other: where entry k is a place in the one, its sum is entry k of the other
pub sums_beside : (f : ℕ → ℕ) (ps entry sums : List ℕ) (k : ℕ) → k < length ps → k < length entry → k < length sums
    → get_or (overlay (map f ps) sums) k 0 ≡ f (get_or (overlay ps entry) k 0)
unfolding overlay
sums_beside f [] entry sums k h l m = absurd (not-suc-le-zero h)
sums_beside f (p ∷ ps) [] sums k h l m = absurd (not-suc-le-zero l)
sums_beside f (p ∷ ps) (e ∷ entry) [] k h l m = absurd (not-suc-le-zero m)
sums_beside f (p ∷ ps) (e ∷ entry) (v ∷ sums) zero h l m = refl
sums_beside f (p ∷ ps) (e ∷ entry) (v ∷ sums) (suc k) h l m = sums_beside f ps entry sums k (le_of_suc-le-suc h) (le_of_suc-le-suc l) (le_of_suc-le-suc m)

-- ---- the least of some numbers
-- of none, and of one more
pub least_none : least_of [] ≡ 0
unfolding least_of
least_none = refl

pub least_more : (vs : List ℕ) (v : ℕ) → least_of (vs ++ (v ∷ [])) ≡ lowered (length vs) (least_of vs) v
unfolding least_of lowered
least_more [] v = refl
least_more (a ∷ []) v = refl
least_more (a ∷ b ∷ vs) v = ap (λ (k : ℕ). min a k) (least_more (b ∷ vs) v) ∙ omega arith

-- none is less
pub least_each : (vs : List ℕ) {v : ℕ} → Memᴰ v vs → least_of vs ≤ v
unfolding least_of
least_each [] m = absurd (Memᴰ.not-nil m)
least_each (a ∷ []) m = ⊎_elim (λ e. omega (arith, e)) (λ n. absurd (Memᴰ.not-nil n)) (Memᴰ.cases_cons m)
least_each (a ∷ b ∷ vs) m = ⊎_elim (λ e. omega (arith, e)) (λ n. omega (arith, least_each (b ∷ vs) n)) (Memᴰ.cases_cons m)

-- and it is one of them
smaller_is : (a b : ℕ) → (min a b ≡ a) ⊎ (min a b ≡ b)
smaller_is zero b = inl (omega arith)
smaller_is (suc a) zero = inr (omega arith)
smaller_is (suc a) (suc b) = ⊎_elim (λ e. inl (omega (arith, e))) (λ e. inr (omega (arith, e))) (smaller_is a b)

pub least_one : (vs : List ℕ) → 1 ≤ length vs → Memᴰ (least_of vs) vs
unfolding least_of
least_one [] h = absurd (not-suc-le-zero h)
least_one (a ∷ []) h = Memᴰ.head refl
least_one (a ∷ b ∷ vs) h =
    ⊎_elim (λ e. Memᴰ.head e) (λ e. Memᴰ.tail (Memᴰ.cast e (least_one (b ∷ vs) (omega arith)))) (smaller_is a (least_of (b ∷ vs)))

-- 0 is the least of none, and of numbers with a 0 among them
pub least_zero : (vs : List ℕ) → (least_of vs ≡ 0) ↔ ((length vs ≡ 0) ⊎ Memᴰ 0 vs)
least_zero [] = (λ e. inl refl, λ h. least_none)
least_zero (a ∷ vs) = (
  λ e. inr (Memᴰ.cast (sym e) (least_one (a ∷ vs) (omega arith))),
  λ h. ⊎_elim (λ (n : length (a ∷ vs) ≡ 0). absurd (omega (arith, n))) (λ m. omega (arith, least_each (a ∷ vs) m)) h,
)

-- ---- the least as it is kept: the first sum, or the smaller of two
pub lowered_first : (count least v : ℕ) → count ≡ 0 → v ≡ lowered count least v
unfolding lowered
lowered_first count least v e = rw e

pub lowered_is : (count least v : ℕ) → (count ≡ 0 → ⊥) → {smaller : ℕ} → smaller ≡ min least v → smaller ≡ lowered count least v
unfolding lowered
lowered_is zero least v h e = absurd (h refl)
lowered_is (suc count) least v h e = e
