-- Edges of the rules, by computation: what an edit of a definition is refused by. The sheet's own examples stand in crate sheet. Assumes nothing.
use Prim.Native.Nat.{ℕ}
use mathlib.Core.Bool.{true, true≢false}
use mathlib.Core.Path.{◌≡◌, refl, sym}
use mathlib.Core.List.{List, [], ◌∷◌}
use Rattle.fit.specs.Reading.{near, alike}
use Rattle.fit.specs.Place.{fit_of}
use Rattle.jumps.specs.Least.{greatest, least, all_below, some_below}
use Rattle.jumps.specs.Jumps.{last_jump, next_jump, seen_jump, after_jump, lonely, lone_at, lone_jump, earlier, mismatch_jump, full_at, full_jump}
use Rattle.jumps.specs.Demand.{MismatchedAt}

abbrev two : List ℕ
two = 10 ∷ 20 ∷ []

-- a reading that differs from the last point by d, and by d + 1; one that is near the first alone; one that is near none
pub last_edges : (last_jump (fit_of 1 two) 2 21 ≡ 0) × (last_jump (fit_of 1 two) 2 22 ≡ 2) × (last_jump (fit_of 1 two) 2 9 ≡ 1) × (last_jump (fit_of 1 two) 2 15 ≡ 2)
unfolding greatest near
last_edges = (refl, refl, refl, refl)

pub next_edges : (next_jump (fit_of 1 two) 2 21 ≡ 1) × (next_jump (fit_of 1 two) 2 15 ≡ 3)
unfolding greatest near
next_edges = (refl, refl)

-- "the least k of 1 or more with k = m or x[m-k] near a" (#108). Of 10, 20, 10, 20 the reading 21 is near points 2 and 4, so k = 2, as the
-- after-check jump says; 9 is near points 1 and 3, not near the last: k = 1 and not 3; 15 is near none, and so is 0, which differs from all
-- points by at most d; of one point k = 1; of 42 and 44 the reading 45 is near the last alone: k = m, where the after-check jump is 1
pub seen_edges : (seen_jump (fit_of 1 (10 ∷ 20 ∷ 10 ∷ 20 ∷ [])) 4 21 ≡ 2) × (seen_jump (fit_of 1 (10 ∷ 20 ∷ 10 ∷ 20 ∷ [])) 4 9 ≡ 1)
    × (seen_jump (fit_of 1 two) 2 15 ≡ 2) × (seen_jump (fit_of 9 (1 ∷ 2 ∷ 3 ∷ [])) 3 0 ≡ 3) × (seen_jump (fit_of 1 (7 ∷ [])) 1 7 ≡ 1)
    × (seen_jump (fit_of 1 (42 ∷ 44 ∷ [])) 2 45 ≡ 2)
unfolding seen_jump least near
seen_edges = (refl, refl, refl, refl, refl, refl)

-- for a reading of 0, "m and m + 1" (#103), though it differs from each point by at most d
pub zero_edges : (last_jump (fit_of 9 (1 ∷ 2 ∷ [])) 2 0 ≡ 2) × (next_jump (fit_of 9 (1 ∷ 2 ∷ [])) 2 0 ≡ 3)
unfolding greatest near
zero_edges = (refl, refl)

-- points that differ by 2d, and by 2d + 1
pub after_edges : (after_jump 1 (42 ∷ 44 ∷ []) ≡ 1) × (after_jump 1 (41 ∷ 44 ∷ []) ≡ 2)
unfolding greatest alike
after_edges = (refl, refl)

pub full_edges : (full_jump 1 (42 ∷ 44 ∷ []) ≡ 1) × (full_jump 1 (41 ∷ 44 ∷ []) ≡ 2)
unfolding full_jump least full_at all_below alike
full_edges = (refl, refl)

-- 9 is near 8 and not near 7, though 8 is near 7; what is near 1 is near 2, since 0 is near to neither
pub mismatch_edges : (mismatch_jump 1 (8 ∷ 7 ∷ []) 1 ≡ 1) × (mismatch_jump 1 (1 ∷ 2 ∷ []) 1 ≡ 2)
unfolding mismatch_jump near
mismatch_edges = (refl, refl)

-- a 0 is evidence of a mismatch with the last point, though it differs from it by no more than d
pub zero_evidence : MismatchedAt 9 (1 ∷ 2 ∷ []) 1 1 0
unfolding earlier near
zero_evidence = record { earlier_near = λ h. absurd (true≢false (sym h)); itself_far = λ e. refl }

-- c = 255 counts
pub lonely_at_255 : lonely 0 255 254 ≡ true
unfolding lonely some_below near
lonely_at_255 = refl

-- the higher point first among equals
pub higher_first : earlier 0 (5 ∷ 9 ∷ []) 1 0 ≡ true
unfolding earlier lone_jump lone_at lonely least some_below near
higher_first = refl
