-- What is turned away, and in which order: document 01's table, and what document 02 changes in it. Assumes nothing.
use Rattle.std.specs.Prelude.{ℕ, zero, suc, ◌≤◌, ◌<◌, Bool, false, ◌||◌, List, [], ◌∷◌, ◌++◌, ◌⊎◌, ◌≡◌, length, get_or, eqb, ltb}
use Rattle.fit.specs.Reading.{lowest}
use Rattle.fit.specs.Chain.{Reason, first_reason}

-- "The greatest allowed values, 64 points, 255, 16,320 and 1,000,000 readings"
abbrev pub max_points : ℕ
max_points = 64

abbrev pub max_delta : ℕ
max_delta = 255

abbrev pub max_gamma : ℕ
max_gamma = 16320

abbrev pub max_readings : ℕ
max_readings = 1000000

-- the first of two numbers that is not 0: the number of two chains that are joined
unfoldable pub or_else : ℕ → ℕ → ℕ
or_else zero later = later
or_else (suc num) later = suc num

-- ---- the reasons
-- #102: "1 now only for m = 0"
abbrev pub no_points : List ℕ → Reason
no_points x = record { number = 1; applies = eqb (length x) 0 }

-- #102: "7 for m > 64"
abbrev pub many_points : List ℕ → Reason
many_points x = record { number = 7; applies = ltb max_points (length x) }

-- #103: "8 for a profile holding a 0"
abbrev pub holds_zero : List ℕ → Bool
holds_zero [] = false
holds_zero (p ∷ x) = eqb p 0 || holds_zero x

abbrev pub zero_point : List ℕ → Reason
zero_point x = record { number = 8; applies = holds_zero x }

-- No. 2: "delta > 255 or gamma > 16,320"
abbrev pub wide_tolerance : ℕ → ℕ → Reason
wide_tolerance delta gamma = record { number = 2; applies = ltb max_delta delta || ltb max_gamma gamma }

-- No. 3: "n > 1,000,000"
abbrev pub many_readings : List ℕ → Reason
many_readings y = record { number = 3; applies = ltb max_readings (length y) }

-- ---- the order in which they are written. #102: 7 is "tested directly after 1"; #103: 8 comes "after 7 and before 2"
abbrev pub profile_reasons : List ℕ → List Reason
profile_reasons x = no_points x ∷ many_points x ∷ zero_point x ∷ []

abbrev pub question_reasons : ℕ → ℕ → List ℕ → List Reason
question_reasons delta gamma x = profile_reasons x ++ (wide_tolerance delta gamma ∷ [])

abbrev pub search_reasons : ℕ → ℕ → List ℕ → List ℕ → List Reason
search_reasons delta gamma x y = question_reasons delta gamma x ++ (many_readings y ∷ [])

-- ---- the refusal of a profile, a tolerance, a recording, a question and a search: the first reason's number, and 0 where none applies
unfoldable pub of_profile : List ℕ → ℕ
of_profile x = first_reason (profile_reasons x)

unfoldable pub of_tolerance : ℕ → ℕ → ℕ
of_tolerance delta gamma = first_reason (wide_tolerance delta gamma ∷ [])

unfoldable pub of_recording : List ℕ → ℕ
of_recording y = first_reason (many_readings y ∷ [])

unfoldable pub question_refusal : ℕ → ℕ → List ℕ → ℕ
question_refusal delta gamma x = first_reason (question_reasons delta gamma x)

unfoldable pub search_refusal : ℕ → ℕ → List ℕ → List ℕ → ℕ
search_refusal delta gamma x y = first_reason (search_reasons delta gamma x y)

-- ---- the reasons, as facts. Of a profile: one of its points is 0
pub record HoldsZero (x : List ℕ) : Type 0 where
  pub at : ℕ
  pub inside : at < length x
  pub zero_there : get_or x at 0 ≡ 0

-- it is empty, or too long, or holds a 0
abbrev pub BadProfile : List ℕ → Type 0
BadProfile x = (length x ≡ 0) ⊎ ((max_points < length x) ⊎ HoldsZero x)

abbrev pub BadTolerance : ℕ → ℕ → Type 0
BadTolerance delta gamma = (max_delta < delta) ⊎ (max_gamma < gamma)

abbrev pub BadRecording : List ℕ → Type 0
BadRecording y = max_readings < length y

-- what is known where no reason applies: to a question, and to a search
pub record Asked (delta gamma : ℕ) (x : List ℕ) : Type 0 where
  pub some : 1 ≤ length x
  pub few : length x ≤ max_points
  pub real : (i : ℕ) → i < length x → lowest ≤ get_or x i 0
  pub delta_small : delta ≤ max_delta
  pub gamma_small : gamma ≤ max_gamma

pub record Accepted (delta gamma : ℕ) (x y : List ℕ) : Type 0 where
  pub asked : Asked delta gamma x
  pub short : length y ≤ max_readings
