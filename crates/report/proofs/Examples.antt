-- "For E4 (21 bytes of input) the whole output is" document 01's seven lines, of which "the program's line becomes `last 2 4`" (document 02,
-- #108): by computation. Assumes nothing.
use Prim.Native.Nat.{ℕ}
use mathlib.Core.Path.{◌≡◌, refl}
use mathlib.Core.List.{List, [], ◌∷◌, ◌++◌}
use Rattle.fit.specs.Reading.{alike, near}
use Rattle.fit.specs.Rule.{all_fit, sum_cost, is_place_by}
use Rattle.fit.specs.Place.{is_place}
use Rattle.fit.specs.Listing.{up_to, places}
use Rattle.fit.specs.Walk.{walk_by, walk}
use Rattle.fit.specs.Refusal.{search_refusal}
use Rattle.fit.specs.Answer.{outcome}
use Rattle.jumps.specs.Least.{greatest, least, all_below, some_below}
use Rattle.jumps.specs.Jumps.{seen_jump, lonely, lone_at, lone_jump, earlier, agrees_at, mismatch_at, mismatch_jump, full_at, full_jump}
use Rattle.comparing.specs.Order.{with_lone, falling}
use Rattle.last.specs.Walk.{last_tries, last_next}
use Rattle.skip.specs.Walk.{probed, probes, skip_walk}
use Rattle.leaping.specs.Walk.{compared_jump, maximal_next}
use Rattle.input.specs.Inputs.{of_input, points_by, recording_by}
use Rattle.page.specs.Put.{count_from, decimal}
use Rattle.lines.specs.Lines.{line_by, lines_of}
use Rattle.report.specs.Report.{plain_name, packed_name, last_name, skip_name, maximal_name, found_by, report_by, report_of}

abbrev e4 : List ℕ
e4 = 1 ∷ 0 ∷ 2 ∷ 3 ∷ 40 ∷ 42 ∷ 44 ∷ 40 ∷ 42 ∷ 44 ∷ 41 ∷ 43 ∷ 45 ∷ 39 ∷ 42 ∷ 43 ∷ 70 ∷ 41 ∷ 41 ∷ 43 ∷ 40 ∷ []

-- ` 2 12`, ` 2 4`, ` 2 6`, ` 2 5`, `0` and `6`, each with its line end
abbrev seven_lines : List ℕ
seven_lines =
    plain_name ++ (32 ∷ 50 ∷ 32 ∷ 49 ∷ 50 ∷ 10 ∷ []) ++ packed_name ++ (32 ∷ 50 ∷ 32 ∷ 49 ∷ 50 ∷ 10 ∷ []) ++ last_name ++ (32 ∷ 50 ∷ 32 ∷ 52 ∷ 10 ∷ [])
    ++ skip_name ++ (32 ∷ 50 ∷ 32 ∷ 54 ∷ 10 ∷ []) ++ maximal_name ++ (32 ∷ 50 ∷ 32 ∷ 53 ∷ 10 ∷ []) ++ (48 ∷ 10 ∷ 54 ∷ 10 ∷ [])

pub e4_report : report_of e4 ≡ seven_lines
unfolding alike near all_fit sum_cost is_place_by is_place up_to places walk_by walk search_refusal outcome greatest least all_below some_below seen_jump lonely lone_at lone_jump earlier agrees_at mismatch_at mismatch_jump full_at full_jump with_lone falling last_tries last_next probed probes skip_walk compared_jump maximal_next of_input points_by recording_by count_from decimal line_by lines_of found_by report_by
e4_report = refl
