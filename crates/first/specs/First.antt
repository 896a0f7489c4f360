-- "Add a question that returns the first place, or none, and stops there" (document 02, #101). Assumes nothing.
use Rattle.std.specs.Prelude.{ℕ, zero, suc, min, Bool, cond, List, [], ◌∷◌, length, get_or, Option, None, Some, Result, Ok, Err}
use Rattle.fit.specs.Answer.{Sought, all}
use Rattle.fit.specs.Refused.{refusal_of}
use Rattle.fit.specs.declared.refusal.Refusal.{Refusal}
use Rattle.first.specs.declared.First.{First}
use Rattle.first.specs.declared.Flat.{Flat}

-- each case of a place by its number and its value: 0 where there is none; 1, and the place
unfoldable pub number_of : Option ℕ → ℕ
number_of None = 0
number_of (Some s) = 1

unfoldable pub value_of : Option ℕ → ℕ
value_of None = 0
value_of (Some s) = s

-- the place that an answer tells, and the windows tried: none and 0 where it is a refusal
abbrev pub place_of : Result First Refusal → Option ℕ
place_of (Ok f) = f.place
place_of (Err e) = None

abbrev pub tried_of : Result First Refusal → ℕ
tried_of (Ok f) = f.tried
tried_of (Err e) = 0

-- a refusal's number, a place or none and a count of windows, in these numbers
abbrev pub told_by : ℕ → Option ℕ → ℕ → Flat
told_by num place tried = record { refusal = num; found = number_of place; place = value_of place; tried = tried }

-- an answer in these numbers
abbrev pub told_of : Result First Refusal → Flat
told_of r = told_by (refusal_of r) (place_of r) (tried_of r)

-- the windows of a walk "up to and including that place, or of the whole walk"
unfoldable pub up_to_place : (ℕ → Bool) → List ℕ → List ℕ
up_to_place p [] = []
up_to_place p (s ∷ walk) = s ∷ cond (p s) [] (up_to_place p walk)

-- the whole answer, by the refusal's number: "the first entry of the full list and none exactly when the total is 0", and the windows tried
unfoldable pub first_answer : ℕ → Sought → List ℕ → Flat
first_answer zero t walk =
    record { refusal = 0; found = min 1 (length (all t)); place = get_or (all t) 0 0; tried = length (up_to_place t.place walk) }
first_answer (suc num) t walk = record { refusal = suc num; found = 0; place = 0; tried = 0 }
