-- `first::search` meets its contract: refused as it is prepared, or as the search over spans answers. Assumes nothing.
use Rattle.last.proofs.Laws.Ordinary.{going}
use Rattle.first.proofs.Laws.Looking.{handed_first, going_first}
use Rattle.first.proofs.search.Goals as goal

pub returns-in_err-prepared : goal.returns-in_err-prepared
returns-in_err-prepared c = handed_first _ _ _ _ _ c.from_residual.ensures.1 c.in_err-prepared.ensures

pub over_spans-requires : goal.over_spans-requires
over_spans-requires c = (going _ _ _ _ c.in_ok-prepared.ensures).walkable

pub returns : goal.returns
returns c = going_first _ _ _ _ (going _ _ _ _ c.in_ok-prepared.ensures) c.over_spans.ensures
