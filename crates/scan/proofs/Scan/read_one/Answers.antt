-- `scan::Scan::read_one` meets its contract: it is one step of the counters by the words of reading a, which may be added.
use Rattle.adding.proofs.Laws.Filling.{row_part}
use Rattle.scan.proofs.Scan.read_one.Goals as goal

pub returns : goal.returns
returns c = rw c.requires.0 at (rw (row_part _ _ _ _ c.index.ensures.0) at c.step_words.ensures)
