-- No second result: what satisfies a contract of the form `r ≡ definition`, alone or with a bound beside it, is that one value. (For searches:
-- Laws.Answers.) Assumes nothing.
use mathlib.Core.Path.{◌≡◌, refl, sym, ap₂, ◌∙◌}
use mathlib.Core.List.{List, [], ◌∷◌}
use Prim.Native.Nat.{ℕ, suc, ◌<◌}
use native.Mathlib.Omega.{arith}
use lib.ListN.{length, get_or}

pub no_second_value : {A : Type 0} (definition r r' : A) → r ≡ definition → r' ≡ definition → r ≡ r'
no_second_value definition r r' e e' = e ∙ sym e'

-- what a contract says of the result beside the equation, as that it is at most 255, is a help to callers and allows no second value
pub no_second_bounded : {A : Type 0} (definition r r' : A) (More : A → Type 0) → (r ≡ definition) × More r → (r' ≡ definition) × More r' → r ≡ r'
no_second_bounded definition r r' More e e' = no_second_value definition r r' e.0 e'.0

-- lists of one length that agree at each entry are one list
pub same_lists : (l l' : List ℕ) → length l ≡ length l' → ((i : ℕ) → i < length l → get_or l i 0 ≡ get_or l' i 0) → l ≡ l'
same_lists [] [] e f = refl
same_lists [] (a ∷ l') e f = absurd (omega (arith, e))
same_lists (a ∷ l) [] e f = absurd (omega (arith, e))
same_lists (a ∷ l) (a' ∷ l') e f =
    let shorter : length l ≡ length l' = omega (arith, e) in
    ap₂ (λ (b : ℕ) (t : List ℕ). b ∷ t) (f 0 (omega arith)) (same_lists l l' shorter (λ i h. f (suc i) (omega arith)))
