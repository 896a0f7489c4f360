-- `limits::checked_question` meets its contract: the first reason of its parts, and what they made. Assumes nothing.
use Rattle.std.proofs.Common.{sym}
use Rattle.fit.proofs.Laws.Refusals.{question_joined}
use Rattle.fit.proofs.Laws.Refused.{handed}
use Rattle.limits.proofs.Laws.Constructed.{told_first, told_later}
use Rattle.limits.proofs.checked.checked_question.Goals as goal

pub returns-in_err-profile : goal.returns-in_err-profile
returns-in_err-profile c = handed _ _ _ _ c.from_residual.ensures.1
    (told_first _ _ _ _ (question_joined _ _ _) c.in_err-profile.ensures.value)

pub returns-in_err-tolerance : goal.returns-in_err-tolerance
returns-in_err-tolerance c = handed _ _ _ _ c.from_residual-in_err-tolerance.ensures.1
    (told_later _ _ _ _ (question_joined _ _ _) c.in_ok-profile.ensures.value.0 c.in_err-tolerance.ensures.value)

pub returns : goal.returns
returns c =
    let profile = c.in_ok-profile.ensures.value in
    let tolerance = c.in_ok-tolerance.ensures.value in
    (sym (told_later _ _ _ _ (question_joined _ _ _) profile.0 (sym tolerance.0)), record { tolerance = tolerance.1; profile = profile.1 })
