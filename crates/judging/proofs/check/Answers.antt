-- `check` meets its contract: refused, or what the window check answers over the profile's spans. Assumes nothing.
use Rattle.std.proofs.Common.{sym, arith}
use Rattle.limits.proofs.Laws.Openings.{may_compile}
use Rattle.judging.proofs.Laws.Judgings.{check_late, check_first, check_posed, check_ready, check_told, check_handed, check_granted}
use Rattle.judging.proofs.check.Goals as goal

pub returns-in_err-checked : goal.returns-in_err-checked
returns-in_err-checked c = check_handed _ _ _ _ c.from_residual.ensures.1 (check_first _ _ _ _ _ _ c.in_err-checked.ensures)

pub returns-in_err-of_window : goal.returns-in_err-of_window
returns-in_err-of_window c =
    check_handed _ _ _ _ c.from_residual-in_err-of_window.ensures.1 (check_late _ _ _ _ _ c.in_ok-checked.ensures.0 _ c.in_err-of_window.ensures)

pub spans_of-spans-requires : goal.spans_of-spans-requires
spans_of-spans-requires c =
    let at = check_posed _ _ _ _ _ c.in_ok-checked.ensures c.in_ok-of_window.ensures in
    (may_compile _ _ _ at.known.ok.asked at.carries c.d-d.ensures).1

pub check_at-requires : goal.check_at-requires
check_at-requires c =
    let at = check_posed _ _ _ _ _ c.in_ok-checked.ensures c.in_ok-of_window.ensures in
    let ready = check_ready at c.d-d.ensures c.spans_of-spans.ensures.rows in
    omega (arith, ready.1, c.spans_of-spans.ensures.points, at.carries.profile.m_is)

pub returns : goal.returns
returns c =
    let at = check_posed _ _ _ _ _ c.in_ok-checked.ensures c.in_ok-of_window.ensures in
    check_granted _ _ _ (sym (check_late _ _ _ _ _ c.in_ok-checked.ensures.0 0 c.in_ok-of_window.ensures))
    (check_told at c.d-d.ensures c.spans_of-spans.ensures.rows _ c.spans_of-spans.ensures.points _ c.check_at.ensures)
