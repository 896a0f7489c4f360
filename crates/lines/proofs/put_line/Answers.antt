-- `lines::put_line` meets its contract: the refusal decides which line it is. Assumes nothing.
use Rattle.lines.proofs.Laws.Texts.{line_refused, line_counted}
use Rattle.lines.proofs.put_line.Goals as goal

pub returns-then-found-ne0 : goal.returns-then-found-ne0
returns-then-found-ne0 c = line_refused _ _ c.if-found-ne0.true c.put_refused.ensures

pub returns-else-found-ne0 : goal.returns-else-found-ne0
returns-else-found-ne0 c = line_counted _ _ c.if-found-ne0.false c.put_counts.ensures
