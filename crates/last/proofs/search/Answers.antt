-- `last::search` meets its contract: refused as it is prepared, or as the search over spans answers. Assumes nothing.
use Rattle.std.proofs.Common.{rules}
use Rattle.fit.proofs.Laws.Refused.{handed_search}
use Rattle.last.proofs.Laws.Ordinary.{going, going_answers}
use Rattle.last.proofs.search.Goals as goal

pub returns-in_err-prepared : goal.returns-in_err-prepared
returns-in_err-prepared c = handed_search _ _ _ _ _ _ c.from_residual.ensures.1 c.in_err-prepared.ensures

pub over_spans-requires : goal.over_spans-requires
over_spans-requires c = (going _ _ _ _ c.in_ok-prepared.ensures).walkable

pub returns : goal.returns
returns c =
    let answer = going_answers _ _ _ _ (going _ _ _ _ c.in_ok-prepared.ensures) c.over_spans.ensures.answer in
    search rules
