-- `page::Page::put_number` meets its contract: the digits that the library writes are put as a text. Assumes nothing.
use mathlib.Core.Path.{◌∙◌}
use Rattle.page.proofs.Laws.Pages.{puts_same}
use Rattle.page.proofs.Laws.Numbers.{decimal_same}
use Rattle.page.proofs.Page.put_number.Goals as goal

pub returns : goal.returns
returns c = puts_same (c.as_bytes.ensures.value ∙ c.format.ensures.text ∙ decimal_same _ c.ranges.x.fits) c.put_text.ensures
