-- `report::with_list` meets its contract: plain's line, the others', and the places that the list holds. Assumes nothing.
use mathlib.Core.Path.{sym, ◌∙◌}
use native.Mathlib.Omega.{arith}
use lib.Seq.{length-take-le}
use Rattle.page.proofs.Laws.Pages.{puts_both}
use Rattle.lines.proofs.Laws.Texts.{no_line}
use Rattle.report.proofs.Laws.Reports.{told_as, listed_as, places_held}
use Rattle.report.proofs.with_list.Goals as goal

pub slice_bounds-put_places-end : goal.slice_bounds-put_places-end
slice_bounds-put_places-end c = (places_held _ _ _ _ _ _ _ _ c.in-Ok.ensures (omega arith)).0

pub slice_bounds-put_places-end-in-Ok : goal.slice_bounds-put_places-end-in-Ok
slice_bounds-put_places-end-in-Ok c = sym (length-take-le _ _ (places_held _ _ _ _ _ _ _ _ c.in-Ok.ensures (omega arith)).0)

pub returns-in-Ok : goal.returns-in-Ok
returns-in-Ok c =
    puts_both _ _ (puts_both _ _ (told_as _ (c.from.ensures ∙ c.search-found.ensures.result) c.put_line.ensures) c.put_others.ensures)
    (listed_as (places_held _ _ _ _ _ _ _ _ c.in-Ok.ensures c.requires).1 c.put_places.ensures)

pub returns-in_default : goal.returns-in_default
returns-in_default c =
    puts_both _ _ (puts_both _ _ (told_as _ (c.from.ensures ∙ c.search-found.ensures.result) c.put_line.ensures) c.put_others.ensures)
    (listed_as (places_held _ _ _ _ _ _ _ _ c.in_default.ensures c.requires).1 (no_line _))
