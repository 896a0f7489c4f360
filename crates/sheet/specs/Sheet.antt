-- Document 01's sheet of examples, and what each row says: by the definitions that the contracts cite, so that it is what the functions
-- answer. Assumes nothing.
use Rattle.std.specs.Prelude.{ℕ, ◌-◌, ◌≡◌, List, [], ◌∷◌, length, replicate}
use Rattle.fit.specs.Place.{fit_of, d_of, windows}
use Rattle.fit.specs.Refusal.{question_refusal, search_refusal}
use Rattle.fit.specs.Answer.{sought_of, all}
use Rattle.counters.specs.Width.{width_of}
use Rattle.packed.specs.Needs.{bits_of, words_of}
use Rattle.jumps.specs.Jumps.{last_jump, mismatch_jump}
use Rattle.questions.specs.declared.Jump.{Jump}
use Rattle.questions.specs.Asking.{jump_answer, mismatch_refusal}
use Rattle.last.specs.Walk.{last_walk_of}
use Rattle.skip.specs.Walk.{skip_walk}
use Rattle.leaping.specs.Walk.{maximal_walk}

-- a row: its input, and its result
pub data Row : Type 0 where
  places_are : (x y : List ℕ) (delta gamma : ℕ) (places : List ℕ) → Row
  tried_are : (x y : List ℕ) (delta gamma plain last skip maximal : ℕ) → Row
  width_is : (g width : ℕ) → Row
  packed_is : (x : List ℕ) (delta gamma bits words : ℕ) → Row
  last_reading_is : (x : List ℕ) (delta gamma a jump : ℕ) → Row
  mismatch_is : (x : List ℕ) (delta gamma p jump : ℕ) → Row

-- what the definitions give for a row's input: for a search, with its refusal before the places; for a question, its refusal and its jump
abbrev answered : Jump → List ℕ
answered r = r.refusal ∷ r.jump ∷ []

abbrev pub found : Row → List ℕ
found (places_are x y delta gamma places) = search_refusal delta gamma x y ∷ all (sought_of delta gamma x y)
found (tried_are x y delta gamma plain last skip maximal) =
    windows (length x) (length y)
    ∷ length (last_walk_of delta gamma x y)
    ∷ length (skip_walk (fit_of (d_of delta gamma) x) (length x) y)
    ∷ length (maximal_walk (d_of delta gamma) x y)
    ∷ []
found (width_is g width) = width_of g ∷ []
found (packed_is x delta gamma bits words) = search_refusal delta gamma x [] ∷ bits_of delta gamma (length x) ∷ words_of delta gamma (length x) ∷ []
found (last_reading_is x delta gamma a jump) = answered (jump_answer (question_refusal delta gamma x) (last_jump (fit_of (d_of delta gamma) x) (length x) a))
found (mismatch_is x delta gamma p jump) = answered (jump_answer (mismatch_refusal delta gamma x p) (mismatch_jump (d_of delta gamma) x (p - 1)))

-- what the sheet has: no row's search or question is refused
abbrev pub stated : Row → List ℕ
stated (places_are x y delta gamma places) = 0 ∷ places
stated (tried_are x y delta gamma plain last skip maximal) = plain ∷ last ∷ skip ∷ maximal ∷ []
stated (width_is g width) = width ∷ []
stated (packed_is x delta gamma bits words) = 0 ∷ bits ∷ words ∷ []
stated (last_reading_is x delta gamma a jump) = 0 ∷ jump ∷ []
stated (mismatch_is x delta gamma p jump) = 0 ∷ jump ∷ []

-- a row says that these are the same
abbrev pub Says : Row → Type 0
Says r = found r ≡ stated r

-- "P is 40 42 44. L is 40 42 44 41 43 45 39 42 43 70 41 41 43 40 (n = 14)."
abbrev P : List ℕ
P = 40 ∷ 42 ∷ 44 ∷ []

abbrev L : List ℕ
L = 40 ∷ 42 ∷ 44 ∷ 41 ∷ 43 ∷ 45 ∷ 39 ∷ 42 ∷ 43 ∷ 70 ∷ 41 ∷ 41 ∷ 43 ∷ 40 ∷ []

-- E1 to E13, in order, and of E10's second input what #104 says: "accepted, in two words"; behind E4 the windows tried that the program prints for it
abbrev pub sheet : List Row
sheet =
    places_are P [] 1 2 []
    ∷ places_are (1 ∷ []) (255 ∷ []) 254 254 (0 ∷ [])
    ∷ places_are (1 ∷ []) (255 ∷ []) 253 254 []
    ∷ places_are P L 1 2 (0 ∷ 6 ∷ [])
    ∷ tried_are P L 1 2 12 4 6 5
    ∷ places_are P L 1 3 (0 ∷ 3 ∷ 6 ∷ 10 ∷ [])
    ∷ places_are P L 1 1 (0 ∷ [])
    ∷ places_are P L 9 2 (0 ∷ 6 ∷ [])
    ∷ places_are (7 ∷ 7 ∷ []) (7 ∷ 7 ∷ 7 ∷ []) 0 0 (0 ∷ 1 ∷ [])
    ∷ width_is 0 1
    ∷ width_is 1 2
    ∷ width_is 3 3
    ∷ width_is 4 4
    ∷ width_is 16320 15
    ∷ packed_is (replicate 16 40) 1 7 64 1
    ∷ packed_is (replicate 16 40) 1 8 80 2
    ∷ last_reading_is P 1 2 44 0
    ∷ last_reading_is P 1 2 41 1
    ∷ last_reading_is P 1 2 40 2
    ∷ last_reading_is P 1 2 70 3
    ∷ mismatch_is (6 ∷ 5 ∷ []) 1 2 2 1
    ∷ mismatch_is (255 ∷ 254 ∷ []) 1 2 2 2
    ∷ []

-- every row of a table holds
abbrev pub Holds : List Row → Type 0
Holds [] = Unit {0}
Holds (r ∷ rows) = Says r × Holds rows
