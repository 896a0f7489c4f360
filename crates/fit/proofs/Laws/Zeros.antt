-- Laws of a profile that holds a 0, and of one that holds none: each of its points is a reading. Assumes nothing.
use mathlib.Core.Path.{◌≡◌, sym}
use mathlib.Core.Bool.{true, false, true≢false}
use mathlib.Core.Logic.{⊎_elim, ◌↔◌}
use mathlib.Core.List.{List, [], ◌∷◌}
use Prim.Native.Nat.{ℕ, zero, suc, ◌≤◌, ◌<◌}
use native.Mathlib.Nat.{not-suc-le-zero, le_of_suc-le-suc}
use native.Mathlib.Omega.{arith}
use lib.ListN.{length, get_or}
use lib.Dec.{eqb}
use borrow.Author.Tests.{eqb-true, eq-eqb}
use Rattle.fit.specs.Reading.{lowest}
use Rattle.fit.specs.Refusal.{holds_zero, HoldsZero}
use Rattle.fit.proofs.Laws.Bools.{or_cases, or_left, or_right, is_false}
use Rattle.fit.proofs.Laws.Readings.{zero_below, above_zero}

-- ---- the test, point by point
pub zero_at : (x : List ℕ) (i : ℕ) → get_or x i 0 ≡ 0 → i < length x → holds_zero x ≡ true
zero_at [] i e h = absurd (not-suc-le-zero h)
zero_at (p ∷ x) zero e h = or_left (eqb p 0) (holds_zero x) (eq-eqb p 0 e)
zero_at (p ∷ x) (suc i) e h = or_right (eqb p 0) (holds_zero x) (zero_at x i e (le_of_suc-le-suc h))

zero_found : (x : List ℕ) → holds_zero x ≡ true → HoldsZero x
zero_found [] e = absurd (true≢false (sym e))
zero_found (p ∷ x) e =
    ⊎_elim (λ t. record { at = 0; inside = omega arith; zero_there = eqb-true p 0 t })
    (λ t. let z = zero_found x t in record { at = suc z.at; inside = omega (arith, z.inside); zero_there = z.zero_there })
    (or_cases (eqb p 0) (holds_zero x) e)

pub holds_exactly : (x : List ℕ) → (holds_zero x ≡ true) ↔ HoldsZero x
holds_exactly x = (zero_found x, λ z. zero_at x z.at z.zero_there z.inside)

-- at the end of a loop: none of the first i points is 0, and these are all
pub none_zero : (x : List ℕ) (i : ℕ) → ((j : ℕ) → j < i → get_or x j 0 ≡ 0 → ⊥) → length x ≤ i → holds_zero x ≡ false
none_zero x i none h = is_false (holds_zero x) (λ e. let z = zero_found x e in none z.at (omega (arith, z.inside)) z.zero_there)

-- ---- no point is 0, exactly where each is a reading
pub real_exactly : (x : List ℕ) → (HoldsZero x → ⊥) ↔ ((i : ℕ) → i < length x → lowest ≤ get_or x i 0)
real_exactly x = (
  λ none i h. above_zero (get_or x i 0) (λ e. none (record { at = i; inside = h; zero_there = e })),
  λ real z. zero_below (rw z.zero_there at (real z.at z.inside)),
)
