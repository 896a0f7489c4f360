-- Laws of the report: each line tells what its searcher answers, and the list holds every place. Assumes nothing.
use Prim.Native.Nat.{ℕ, zero, suc, ◌≤◌}
use Rattle.std.specs.Prelude.{Ok, Err}
use mathlib.Core.Path.{◌≡◌, refl, ap}
use mathlib.Core.List.{List}
use native.Mathlib.Omega.{arith}
use lib.ListN.{length, take, drop}
use lib.Seq.{take_all, take_at}
use Rattle.fit.specs.Listing.{places, overlay}
use Rattle.fit.specs.Refusal.{search_refusal}
use Rattle.fit.specs.Answer.{Lent, Answers}
use Rattle.fit.specs.declared.answer.Search.{Search}
use Rattle.fit.proofs.Laws.Listings.{overlay_is, length_overlay}
use Rattle.fit.proofs.Laws.Refusals.{none_exactly}
use Rattle.fit.proofs.Laws.Answers.{places_short, answer_accepted, answer_refused}
use Rattle.input.specs.Inputs.{of_input}
use Rattle.input.specs.Told.{Parsed}
use Rattle.input.specs.declared.Input.{Input}
use Rattle.fit.specs.Refused.{number_of}
use Rattle.fit.specs.declared.refusal.Refusal.{Refusal}
use Rattle.fit.proofs.Laws.Refused.{number_some}
use Rattle.input.proofs.Laws.Parses.{parse_refused, parse_accepted, parse_read}
use Rattle.page.specs.Puts.{Puts}
use Rattle.page.specs.declared.Page.{Page}
use Rattle.lines.specs.Lines.{refused_line, line_of, lines_of}
use Rattle.report.specs.Report.{input_name, found_by, report_for, report_by, report_of}

-- the line of an answer is the line of what it equals
pub told_as : (name : List ℕ) {found r : Search} {p q : Page} → found ≡ r → Puts p (line_of name found) q → Puts p (line_of name r) q
told_as name e h = rw e at h

pub listed_as : {ps qs : List ℕ} {p q : Page} → ps ≡ qs → Puts p (lines_of ps) q → Puts p (lines_of qs) q
listed_as e h = rw e at h

-- ---- the places are read back from the list
overlay_held : (ps entry : List ℕ) → length ps ≤ length entry → take (length ps) (overlay ps entry) ≡ ps
overlay_held ps entry room = rw (overlay_is ps entry, take_all (length entry) ps room) (take_at ps (drop (length ps) entry) (length ps) refl)

-- plain's answer, with a list as long as the recording
module _ (delta gamma : ℕ) (x y : List ℕ) (tried : ℕ) (entry final : Lent) (r : Search) where
  pub places_held : Answers delta gamma x y tried entry r final → length y ≤ length entry.list
      → (r.total ≤ length final.list) × (take r.total final.list ≡ found_by (search_refusal delta gamma x y) (places delta gamma x y))
  unfolding found_by
  places_held a room = by_number (search_refusal delta gamma x y) refl
    where
      by_number : (num : ℕ) → search_refusal delta gamma x y ≡ num → (r.total ≤ length final.list) × (take r.total final.list ≡ found_by num (places delta gamma x y))
      by_number zero e =
          let ok = (none_exactly delta gamma x y).0 e in
          let said = answer_accepted delta gamma x y tried entry final r a ok in
          let total : r.total ≡ length (places delta gamma x y) = ap (λ (v : Search). v.total) said.0 in
          let fit : length (places delta gamma x y) ≤ length entry.list = omega (arith, room, places_short delta gamma x y, ok.asked.some) in
          (rw (total, said.1, length_overlay (places delta gamma x y) entry.list) fit, rw (total, said.1) (overlay_held (places delta gamma x y) entry.list fit))
      by_number (suc num) e =
          let total : r.total ≡ 0 = ap (λ (v : Search). v.total) (answer_refused delta gamma x y tried entry final r a num e).0 in
          (omega (arith, total), rw total)

-- ---- the whole input
module _ (input : List ℕ) {p q : Page} where
  pub refused_report : {r : Refusal} → Parsed input (Err r) → Puts p (refused_line input_name (number_of r)) q → Puts p (report_of input) q
  unfolding report_by
  refused_report {r} e h = by_number (of_input input) (parse_refused input e)
    where
      by_number : (num : ℕ) → number_of r ≡ num → Puts p (report_by num input) q
      by_number zero f = absurd (omega (arith, number_some r, f))
      by_number (suc num) f = rw f at h

  pub accepted_report : {i : Input} → Parsed input (Ok i) → Puts p (report_for i) q → Puts p (report_of input) q
  unfolding report_by
  accepted_report e h =
      let read = parse_read input e in
      rw (parse_accepted input e, ← read.0, ← read.1, ← e.points, ← e.recording) h
