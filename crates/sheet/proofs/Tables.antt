-- A table that passes a test holds. Assumes nothing.
use Prim.Native.Nat.{ℕ}
use mathlib.Core.Bool.{Bool, true, false, ◌&&◌}
use mathlib.Core.Path.{◌≡◌, refl, ap₂}
use mathlib.Core.List.{List, [], ◌∷◌}
use lib.Dec.{eqb}
use borrow.Author.Tests.{eqb-true}
use Rattle.fit.proofs.Laws.Bools.{and_left, and_right, not_both}
use Rattle.sheet.specs.Sheet.{Row, found, stated, Holds}

-- whether two lists are the same
unfoldable pub equal : List ℕ → List ℕ → Bool
equal [] [] = true
equal [] (b ∷ k) = false
equal (a ∷ l) [] = false
equal (a ∷ l) (b ∷ k) = eqb a b && equal l k

equal_lists : (l k : List ℕ) → equal l k ≡ true → l ≡ k
unfolding equal
equal_lists [] [] e = refl
equal_lists [] (b ∷ k) e = absurd (not_both e refl)
equal_lists (a ∷ l) [] e = absurd (not_both e refl)
equal_lists (a ∷ l) (b ∷ k) e =
    ap₂ (λ (c : ℕ) (t : List ℕ). c ∷ t) (eqb-true a b (and_left (eqb a b) (equal l k) e)) (equal_lists l k (and_right (eqb a b) (equal l k) e))

-- whether every row of a table holds
unfoldable pub passes : List Row → Bool
unfolding equal
passes [] = true
passes (r ∷ rows) = equal (found r) (stated r) && passes rows

pub passing_holds : (rows : List Row) → passes rows ≡ true → Holds rows
unfolding passes
passing_holds [] e = tt
passing_holds (r ∷ rows) e =
    let here : Bool = equal (found r) (stated r) in
    (equal_lists (found r) (stated r) (and_left here (passes rows) e), passing_holds rows (and_right here (passes rows) e))
