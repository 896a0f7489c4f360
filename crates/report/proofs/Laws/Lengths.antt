-- The report is never longer than its page. Assumes nothing.
use Prim.Native.Nat.{ℕ, zero, suc, ◌+◌, ◌*◌, ◌≤◌}
use mathlib.Core.Bool.{true}
use mathlib.Core.Path.{◌≡◌, refl}
use mathlib.Core.List.Memᴰ
use mathlib.Core.List.{List, [], ◌++◌}
use native.Mathlib.Omega.{arith}
use lib.ListN.{length, take, length-append}
use Rattle.fit.specs.Place.{fit_of, d_of, windows}
use Rattle.fit.specs.Refusal.{search_refusal, Accepted}
use Rattle.fit.specs.Listing.{places}
use Rattle.fit.specs.Answer.{Sought, sought_of, all, outcome}
use Rattle.fit.proofs.Laws.Places.{in_places}
use Rattle.fit.proofs.Laws.Answers.{sought_places, places_short, outcome_small}
use Rattle.fit.proofs.Laws.Refusals.{none_exactly, search_small}
use Rattle.fit.proofs.Laws.Steps.{walk_short}
use Rattle.last.proofs.Laws.Ordinary.{last_short}
use Rattle.skip.proofs.Laws.Walks.{skip_short}
use Rattle.leaping.specs.Walk.{maximal_next}
use Rattle.input.specs.Inputs.{delta_in, gamma_in, max_input, of_input, points_in, recording_in}
use Rattle.input.proofs.Laws.Parses.{input_small, recording_short}
use Rattle.page.specs.Put.{Put}
use Rattle.page.proofs.Laws.Pages.{put_whole}
use Rattle.lines.specs.Lines.{line_of, lines_of}
use Rattle.lines.proofs.Laws.Texts.{refused_short, line_short, lines_short}
use Rattle.report.specs.Report.{plain_name, packed_name, last_name, skip_name, maximal_name, input_name, plain_line, packed_line, last_line, skip_line, maximal_line, other_lines, found_by, report_on, report_by, report_of, page_length}

-- ---- a line of what a searcher answers
outcome_short : (name : List ℕ) (num : ℕ) (t : Sought) (tried : ℕ) → num ≤ 999999 → (num ≡ 0 → (length (all t) ≤ 999999) × (tried ≤ 999999))
    → length (line_of name (outcome num t tried)) ≤ length name + 16
outcome_short name num t tried h small =
    let few = outcome_small num t tried 999999 h small in
    line_short name (outcome num t tried) (omega (arith, few.0)) (omega (arith, few.1)) (omega (arith, few.2))

module _ (delta gamma : ℕ) (x y : List ℕ) (short : length y ≤ max_input) where
  abbrev sought : Sought
  sought = sought_of delta gamma x y

  few_windows : Accepted delta gamma x y → windows (length x) (length y) ≤ max_input
  few_windows ok = omega (arith, short, ok.asked.some)

  few_places : Accepted delta gamma x y → length (places delta gamma x y) ≤ max_input
  few_places ok = omega (arith, places_short delta gamma x y, few_windows ok)

  few_sought : Accepted delta gamma x y → length (all sought) ≤ max_input
  few_sought ok = rw (sought_places delta gamma x y) (few_places ok)

  -- the line of a searcher that the common table refuses or accepts
  common_short : (name : List ℕ) (tried : ℕ) → (Accepted delta gamma x y → tried ≤ 999999)
      → length (line_of name (outcome (search_refusal delta gamma x y) sought tried)) ≤ length name + 16
  common_short name tried small =
      outcome_short name (search_refusal delta gamma x y) sought tried (omega (arith, search_small delta gamma x y))
      (λ none. let ok = (none_exactly delta gamma x y).0 none in (omega (arith, few_sought ok), small ok))

  plain_short : length (plain_line delta gamma x y) ≤ 21
  plain_short = common_short plain_name (windows (length x) (length y)) (λ ok. omega (arith, few_windows ok))

  packed_line_short : length (packed_line delta gamma x y) ≤ 22
  packed_line_short = common_short packed_name (windows (length x) (length y)) (λ ok. omega (arith, few_windows ok))

  last_line_short : length (last_line delta gamma x y) ≤ 20
  last_line_short = common_short last_name _ (λ ok. omega (arith, few_windows ok, last_short delta gamma x y))

  skip_line_short : length (skip_line delta gamma x y) ≤ 20
  skip_line_short = common_short skip_name _ (λ ok. omega (arith, short, skip_short (fit_of (d_of delta gamma) x) (length x) y ok.asked.few))

  maximal_line_short : length (maximal_line delta gamma x y) ≤ 23
  maximal_line_short = common_short maximal_name _ (λ ok. omega (arith, few_windows ok, walk_short (λ s. true) (maximal_next (d_of delta gamma) x y) (windows (length x) (length y))))

  -- ---- the places
  found_short : (num : ℕ) → (num ≡ 0 → Accepted delta gamma x y) → length (lines_of (found_by num (places delta gamma x y))) ≤ 6 * max_input
  unfolding found_by
  found_short zero ok =
      omega (arith, few_places (ok refl), lines_short (places delta gamma x y) (λ s m. omega (arith, short, (in_places delta gamma x y m).inside)))
  found_short (suc num) ok = omega (arith, lines_short [] (λ s m. absurd (Memᴰ.not-nil m)))

  report_on_short : length (report_on delta gamma x y) ≤ page_length
  report_on_short =
      let packed = packed_line delta gamma x y in
      let last = last_line delta gamma x y in
      let skip = skip_line delta gamma x y in
      let maximal = maximal_line delta gamma x y in
      let plain = plain_line delta gamma x y in
      let found = lines_of (found_by (search_refusal delta gamma x y) (places delta gamma x y)) in
      let others = other_lines delta gamma x y in
      omega
      (arith, plain_short, packed_line_short, last_line_short, skip_line_short, maximal_line_short, found_short (search_refusal delta gamma x y) (none_exactly delta gamma x y).0, length-append (plain ++ others) found, length-append plain others, length-append (packed ++ last ++ skip) maximal, length-append (packed ++ last) skip, length-append packed last)

-- ---- the whole report
pub report_short : (input : List ℕ) → length (report_of input) ≤ page_length
unfolding report_by
report_short input = by_number (of_input input) refl
  where
    by_number : (num : ℕ) → of_input input ≡ num → length (report_by num input) ≤ page_length
    by_number zero e = report_on_short (delta_in input) (gamma_in input) (points_in input) (recording_in input) (recording_short input e)
    by_number (suc num) e = omega (arith, refused_short input_name (suc num) (omega (arith, e, input_small input)))

-- so on a page of that length it stands whole
pub report_whole : (page input : List ℕ) {end : ℕ} {after : List ℕ} → page_length ≤ length page → Put page 0 (report_of input) end after → take end after ≡ report_of input
report_whole page input room h = put_whole page (report_of input) (omega (arith, room, report_short input)) h
