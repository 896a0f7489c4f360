-- Edges of the definitions, by computation. Assumes nothing.
use mathlib.Core.Bool.{true, false}
use mathlib.Core.Path.{◌≡◌, refl}
use mathlib.Core.List.{[], ◌∷◌}
use lib.ListN.{replicate}
use Rattle.fit.specs.Reading.{near}
use Rattle.fit.specs.Rule.{all_fit, sum_cost, is_place_by}
use Rattle.fit.specs.Place.{is_place}
use Rattle.fit.specs.Listing.{up_to, places, overlay}
use Rattle.fit.specs.Sums.{least_of}
use Rattle.fit.specs.Refusal.{or_else, search_refusal}
use Rattle.fit.specs.Verdict.{far_at, fits_with, over_with, broken_at, judged, verdict_by, verdict_of}
use Rattle.fit.specs.Answer.{sought_of, lent, outcome, filled}

-- a reading that differs by d is near, one that differs by d + 1 is not; 1 is the least that can be, and 0 is near to no point
pub near_edges : (near 1 40 41 ≡ true) × (near 1 40 42 ≡ false) × (near 1 2 1 ≡ true) × (near 1 1 0 ≡ false) × (near 255 1 0 ≡ false)
unfolding near
near_edges = (refl, refl, refl, refl, refl)

-- sums of gamma and of gamma + 1; each place once, rising, the last window among them
pub place_edges : places 1 1 (40 ∷ 40 ∷ []) (40 ∷ 41 ∷ 41 ∷ 40 ∷ []) ≡ 0 ∷ 2 ∷ []
unfolding places up_to is_place is_place_by all_fit sum_cost near
place_edges = refl

-- a window with a 0 is no place, though the 0 differs by at most delta and the sum is within gamma
pub zero_edges : places 9 9 (1 ∷ 2 ∷ []) (1 ∷ 2 ∷ 0 ∷ 1 ∷ 1 ∷ 0 ∷ []) ≡ 0 ∷ 3 ∷ []
unfolding places up_to is_place is_place_by all_fit sum_cost near
zero_edges = refl

-- the first reason in the written order: no points, or 65 of them, or 64 that are 0, with a delta that is too large; 64 with it, and without
pub order_edges : (search_refusal 256 0 [] [] ≡ 1) × (search_refusal 256 0 (replicate 65 0) [] ≡ 7) × (search_refusal 256 0 (replicate 64 0) [] ≡ 8) × (search_refusal 256 0 (replicate 64 1) [] ≡ 2) × (search_refusal 255 0 (replicate 64 1) [] ≡ 0)
unfolding search_refusal
order_edges = (refl, refl, refl, refl, refl)

-- a 0 as the last point, and as the first
pub eight_edges : (search_refusal 0 0 (1 ∷ 0 ∷ []) [] ≡ 8) × (search_refusal 0 0 (0 ∷ 1 ∷ []) [] ≡ 8)
unfolding search_refusal
eight_edges = (refl, refl)

-- refused, both lists keep their entries
pub refusal_edges : filled (search_refusal 256 0 [] []) (sought_of 256 0 [] (7 ∷ [])) (lent (5 ∷ []) (6 ∷ [])) ≡ lent (5 ∷ []) (6 ∷ [])
unfolding search_refusal filled
refusal_edges = refl

-- two places, of which the second is the closer: into a list of one entry and sums of three; and of no place the least is 0
pub sums_edges :
    (outcome 0 (sought_of 1 2 (40 ∷ 40 ∷ []) (41 ∷ 41 ∷ 40 ∷ [])) 2 ≡ record { refusal = 0; total = 2; tried = 2; least = 1 })
    × (filled 0 (sought_of 1 2 (40 ∷ 40 ∷ []) (41 ∷ 41 ∷ 40 ∷ [])) (lent (7 ∷ []) (7 ∷ 7 ∷ 7 ∷ [])) ≡ lent (0 ∷ []) (2 ∷ 1 ∷ 7 ∷ []))
    × (outcome 0 (sought_of 1 2 (40 ∷ 40 ∷ []) (44 ∷ 44 ∷ [])) 1 ≡ record { refusal = 0; total = 0; tried = 1; least = 0 })
unfolding outcome filled least_of overlay up_to is_place is_place_by all_fit sum_cost near
sums_edges = (refl, refl, refl)

-- what the check answers: a sum of gamma and of gamma + 1; the first far point, though the sum is exceeded before it, and though delta would allow it
-- and gamma alone does not; a 0
pub verdict_edges :
    (verdict_of 1 2 (40 ∷ 42 ∷ 44 ∷ []) (41 ∷ 43 ∷ 44 ∷ []) 0 ≡ fits_with 2)
    × (verdict_of 1 2 (40 ∷ 42 ∷ 44 ∷ []) (41 ∷ 43 ∷ 45 ∷ []) 0 ≡ over_with 3)
    × (verdict_of 5 5 (10 ∷ 10 ∷ 10 ∷ 10 ∷ []) (15 ∷ 15 ∷ 16 ∷ 16 ∷ []) 0 ≡ far_at 3)
    × (verdict_of 9 2 (40 ∷ 42 ∷ 44 ∷ []) (40 ∷ 45 ∷ 44 ∷ []) 0 ≡ far_at 2)
    × (verdict_of 9 9 (1 ∷ 1 ∷ []) (7 ∷ 1 ∷ 0 ∷ []) 1 ≡ far_at 2)
unfolding verdict_by judged broken_at or_else sum_cost near
verdict_edges = (refl, refl, refl, refl, refl)
