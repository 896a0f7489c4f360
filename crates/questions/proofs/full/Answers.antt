-- `full` meets its contract: refused, or the jump by the smaller tolerance. Assumes nothing.
use mathlib.Core.Path.{ap, ◌∙◌}
use Rattle.limits.proofs.Laws.Constructed.{told_d}
use Rattle.jumps.specs.Jumps.{full_jump}
use Rattle.questions.proofs.Laws.Replies.{handed_jump, granted, question_usable}
use Rattle.questions.proofs.full.Goals as goal

pub returns-in_err-checked : goal.returns-in_err-checked
returns-in_err-checked c = handed_jump _ _ _ _ c.from_residual.ensures.1 c.in_err-checked.ensures

pub invariant_of-full_jump : goal.invariant_of-full_jump
invariant_of-full_jump c = record { usable = question_usable _ _ _ c.in_ok-checked.ensures _ c.d-d.ensures }

pub returns : goal.returns
returns c =
    let at = c.in_ok-checked.ensures in
    granted _ _ _ at.0 (c.full_jump.ensures ∙ ap (λ d. full_jump d c.args.points.now) (told_d _ _ _ at.1 c.d-d.ensures))
