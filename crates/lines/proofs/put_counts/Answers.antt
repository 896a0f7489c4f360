-- `lines::put_counts` meets its contract: five texts, one behind the other. Assumes nothing.
use Rattle.page.proofs.Laws.Pages.{puts_both}
use Rattle.lines.proofs.put_counts.Goals as goal

pub returns : goal.returns
returns c =
    let counted = puts_both _ _ (puts_both _ _ c.put_text.ensures c.put_text-2.ensures) c.put_number.ensures in
    puts_both _ _ (puts_both _ _ counted c.put_text-3.ensures) c.put_ended.ensures
