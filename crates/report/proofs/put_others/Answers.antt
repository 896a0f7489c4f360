-- `report::put_others` meets its contract: four lines, one behind the other, each of what its searcher answers. Assumes nothing.
use mathlib.Core.Path.{◌∙◌}
use Rattle.page.proofs.Laws.Pages.{puts_both}
use Rattle.report.proofs.Laws.Reports.{told_as}
use Rattle.report.proofs.put_others.Goals as goal

pub returns : goal.returns
returns c =
    let first = told_as _ (c.from.ensures ∙ c.search-packed.ensures.result) c.put_line.ensures in
    let second = told_as _ (c.from-2.ensures ∙ c.search-last.ensures.result) c.put_line-2.ensures in
    let third = told_as _ (c.from-3.ensures ∙ c.search-skip.ensures.result) c.put_line-3.ensures in
    let fourth = told_as _ (c.from-4.ensures ∙ c.search-maximal.ensures.result) c.put_line-4.ensures in
    puts_both _ _ (puts_both _ _ (puts_both _ _ first second) third) fourth
