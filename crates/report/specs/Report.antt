-- What the program writes, as bytes. Assumes nothing.
use Rattle.std.specs.Prelude.{ℕ, zero, suc, List, [], ◌∷◌, ◌++◌, length}
use Rattle.fit.specs.Place.{fit_of, d_of, windows}
use Rattle.fit.specs.Refusal.{search_refusal}
use Rattle.fit.specs.Listing.{places}
use Rattle.fit.specs.Answer.{sought_of, outcome}
use Rattle.last.specs.Walk.{last_walk_of}
use Rattle.skip.specs.Walk.{skip_walk}
use Rattle.leaping.specs.Walk.{maximal_walk}
use Rattle.input.specs.Inputs.{delta_in, gamma_in, of_input, points_in, recording_in}
use Rattle.input.specs.declared.Input.{Input}
use Rattle.lines.specs.Lines.{refused_line, line_of, lines_of}

-- `plain`, `packed`, `last`, `skip`, `maximal` and `input`
abbrev pub plain_name : List ℕ
plain_name = 112 ∷ 108 ∷ 97 ∷ 105 ∷ 110 ∷ []

abbrev pub packed_name : List ℕ
packed_name = 112 ∷ 97 ∷ 99 ∷ 107 ∷ 101 ∷ 100 ∷ []

abbrev pub last_name : List ℕ
last_name = 108 ∷ 97 ∷ 115 ∷ 116 ∷ []

abbrev pub skip_name : List ℕ
skip_name = 115 ∷ 107 ∷ 105 ∷ 112 ∷ []

abbrev pub maximal_name : List ℕ
maximal_name = 109 ∷ 97 ∷ 120 ∷ 105 ∷ 109 ∷ 97 ∷ 108 ∷ []

abbrev pub input_name : List ℕ
input_name = 105 ∷ 110 ∷ 112 ∷ 117 ∷ 116 ∷ []

-- "all places found by plain": none where it is refused
unfoldable pub found_by : ℕ → List ℕ → List ℕ
found_by zero ps = ps
found_by (suc num) ps = []

module _ (delta gamma : ℕ) (x y : List ℕ) where
  -- "a line per searcher": refused by num, or with so many windows tried
  abbrev pub line_for : List ℕ → ℕ → ℕ → List ℕ
  line_for name num tried = line_of name (outcome num (sought_of delta gamma x y) tried)

  -- plain and packed count all windows, the others those of their walks
  abbrev pub plain_line : List ℕ
  plain_line = line_for plain_name (search_refusal delta gamma x y) (windows (length x) (length y))

  abbrev pub packed_line : List ℕ
  packed_line = line_for packed_name (search_refusal delta gamma x y) (windows (length x) (length y))

  abbrev pub last_line : List ℕ
  last_line =
      line_for last_name (search_refusal delta gamma x y) (length (last_walk_of delta gamma x y))

  abbrev pub skip_line : List ℕ
  skip_line = line_for skip_name (search_refusal delta gamma x y) (length (skip_walk (fit_of (d_of delta gamma) x) (length x) y))

  abbrev pub maximal_line : List ℕ
  maximal_line = line_for maximal_name (search_refusal delta gamma x y) (length (maximal_walk (d_of delta gamma) x y))

  abbrev pub other_lines : List ℕ
  other_lines = packed_line ++ last_line ++ skip_line ++ maximal_line

  -- "It writes a line per searcher .. Then come all places found by plain, one to a line"
  abbrev pub report_on : List ℕ
  report_on = plain_line ++ other_lines ++ lines_of (found_by (search_refusal delta gamma x y) (places delta gamma x y))

-- the same of an input that was taken apart
abbrev pub others_for : Input → List ℕ
others_for i = other_lines i.delta i.gamma i.points.now i.recording.now

abbrev pub report_for : Input → List ℕ
report_for i = report_on i.delta i.gamma i.points.now i.recording.now

-- "Refusal 5 gives only `input refused 5`"
unfoldable pub report_by : ℕ → List ℕ → List ℕ
report_by zero input = report_on (delta_in input) (gamma_in input) (points_in input) (recording_in input)
report_by (suc num) input = refused_line input_name (suc num)

abbrev pub report_of : List ℕ → List ℕ
report_of input = report_by (of_input input) input

-- how long the program's page is
abbrev pub page_length : ℕ
page_length = 73000
