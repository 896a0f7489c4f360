-- `lines::put_refused` meets its contract: three texts, one behind the other. Assumes nothing.
use Rattle.page.proofs.Laws.Pages.{puts_both}
use Rattle.lines.proofs.put_refused.Goals as goal

pub returns : goal.returns
returns c = rw (← c.from.ensures) (puts_both _ _ (puts_both _ _ c.put_text.ensures c.put_text-2.ensures) c.put_ended.ensures)
