-- `spans::suits` meets its contract: the reading lies nothing outside. Assumes nothing.
use Rattle.fit.proofs.Laws.Compiled.{in_is}
use Rattle.spans.proofs.Spans.suits.Goals as goal

pub returns : goal.returns
returns c = in_is _ _ _ _ c.outside.ensures
