-- `skip::search` meets its contract: refused as it begins, or as the search over spans answers. Assumes nothing.
use Rattle.std.proofs.Common.{rules}
use mathlib.Core.Path.{◌≡◌, ap, ◌∙◌}
use lib.ListN.{length}
use Rattle.fit.proofs.Laws.Compiled.{ready, compiled_near, compiled_answer_lem}
use Rattle.fit.proofs.Laws.Refused.{handed_search}
use Rattle.limits.proofs.Laws.Constructed.{told_spans}
use Rattle.limits.proofs.Laws.Openings.{passed, may_compile}
use Rattle.skip.proofs.Laws.Walks.{same_walk}
use Rattle.skip.proofs.search.Goals as goal

pub returns-in_err-checked : goal.returns-in_err-checked
returns-in_err-checked c = handed_search _ _ _ _ _ _ c.from_residual.ensures.1 c.in_err-checked.ensures

pub spans_of-spans-requires : goal.spans_of-spans-requires
spans_of-spans-requires c =
    let known = passed _ _ _ _ c.in_ok-checked.ensures in
    (may_compile _ _ _ known.ok.asked known.carries c.d.ensures).1

pub over_spans-requires : goal.over_spans-requires
over_spans-requires c =
    let known = passed _ _ _ _ c.in_ok-checked.ensures in
    rw (c.spans_of-spans.ensures.points, known.carries.profile.m_is) (ready _ _ _ _ known.ok)

pub returns : goal.returns
returns c =
    let known = passed _ _ _ _ c.in_ok-checked.ensures in
    let given = c.args in
    let long : c.spans_of-spans.result.m ≡ length given.points.now = c.spans_of-spans.ensures.points ∙ known.carries.profile.m_is in
    let spans = told_spans _ _ _ known.carries c.d.ensures c.spans_of-spans.ensures.rows in
    let answer = compiled_answer_lem given.delta given.gamma given.points.now given.recording.now c.spans_of-spans.result.rows spans known.ok _ _ (ap length (same_walk _ _ _ (compiled_near given.delta given.gamma given.points.now _ spans known.ok.asked.few) _)) (rw long at c.over_spans.ensures.answer) in
    search rules
