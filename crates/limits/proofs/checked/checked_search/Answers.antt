-- `limits::checked_search` meets its contract: the first reason of its parts, and what they made. Assumes nothing.
use Rattle.std.proofs.Common.{sym}
use Rattle.fit.proofs.Laws.Refusals.{search_joined}
use Rattle.fit.proofs.Laws.Refused.{handed}
use Rattle.limits.proofs.Laws.Constructed.{told_first, told_later}
use Rattle.limits.proofs.checked.checked_search.Goals as goal

pub returns-in_err-checked : goal.returns-in_err-checked
returns-in_err-checked c = handed _ _ _ _ c.from_residual.ensures.1 (told_first _ _ _ _ (search_joined _ _ _ _) c.in_err-checked.ensures)

pub returns-in_err-of_recording : goal.returns-in_err-of_recording
returns-in_err-of_recording c = handed _ _ _ _ c.from_residual-in_err-of_recording.ensures.1
    (told_later _ _ _ _ (search_joined _ _ _ _) c.in_ok-checked.ensures.0 c.in_err-of_recording.ensures)

pub returns : goal.returns
returns c =
    (sym (told_later _ _ _ _ (search_joined _ _ _ _) c.in_ok-checked.ensures.0 c.in_ok-of_recording.ensures), c.in_ok-checked.ensures.1)
