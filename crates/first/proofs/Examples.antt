-- E4 of document 01: the first place is 0, after 1 window. And the edges of the question. Assumes nothing.
use mathlib.Core.Path.{◌≡◌, refl}
use mathlib.Core.List.{List, [], ◌∷◌}
use Prim.Native.Nat.{ℕ}
use Rattle.fit.specs.Reading.{near}
use Rattle.fit.specs.Rule.{all_fit, sum_cost, is_place_by}
use Rattle.fit.specs.Place.{is_place}
use Rattle.fit.specs.Listing.{up_to}
use Rattle.fit.specs.Refusal.{or_else, of_profile, of_tolerance, of_recording, question_refusal, search_refusal}
use Rattle.fit.specs.Answer.{sought_of}
use Rattle.fit.specs.Walk.{walk_by, walk}
use Rattle.jumps.specs.Least.{greatest, least}
use Rattle.jumps.specs.Jumps.{seen_jump}
use Rattle.last.specs.Walk.{last_tries, last_next, last_walk_of}
use Rattle.first.specs.First.{up_to_place, first_answer}
use Rattle.first.specs.declared.Flat.{Flat}

abbrev asked : ℕ → ℕ → List ℕ → List ℕ → Flat
asked delta gamma x y = first_answer (search_refusal delta gamma x y) (sought_of delta gamma x y) (last_walk_of delta gamma x y)

pub E4-first : asked 1 2 (40 ∷ 42 ∷ 44 ∷ []) (40 ∷ 42 ∷ 44 ∷ 41 ∷ 43 ∷ 45 ∷ 39 ∷ 42 ∷ 43 ∷ 70 ∷ 41 ∷ 41 ∷ 43 ∷ 40 ∷ [])
    ≡ record { refusal = 0; found = 1; place = 0; tried = 1 }
unfolding first_answer up_to_place search_refusal question_refusal of_profile of_tolerance of_recording or_else up_to is_place is_place_by all_fit sum_cost walk walk_by last_tries last_next greatest seen_jump least near
E4-first = refl

-- at the last window, behind one that is tried in vain; none, with one window tried and with none; refused by 1 and by 2
pub edges : asked 0 0 (5 ∷ 6 ∷ []) (6 ∷ 6 ∷ 5 ∷ 6 ∷ [])
    ∷ asked 0 0 (5 ∷ 6 ∷ []) (6 ∷ 6 ∷ 6 ∷ [])
    ∷ asked 0 0 (5 ∷ 6 ∷ []) (5 ∷ [])
    ∷ asked 0 0 [] (5 ∷ [])
    ∷ asked 256 0 (5 ∷ []) (5 ∷ [])
    ∷ []
    ≡ record { refusal = 0; found = 1; place = 2; tried = 2 }
    ∷ record { refusal = 0; found = 0; place = 0; tried = 1 }
    ∷ record { refusal = 0; found = 0; place = 0; tried = 0 }
    ∷ record { refusal = 1; found = 0; place = 0; tried = 0 }
    ∷ record { refusal = 2; found = 0; place = 0; tried = 0 }
    ∷ []
unfolding first_answer up_to_place search_refusal question_refusal of_profile of_tolerance of_recording or_else up_to is_place is_place_by all_fit sum_cost walk walk_by last_tries last_next greatest seen_jump least near
edges = refl
