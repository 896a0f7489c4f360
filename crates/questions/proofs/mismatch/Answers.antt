-- `mismatch` meets its contract: refused, or the entry of the table of mismatch jumps. Assumes nothing.
use Prim.Native.Nat.{◌-◌}
use mathlib.Core.Path.{ap, ◌∙◌}
use native.Mathlib.Omega.{arith}
use Rattle.limits.proofs.Laws.Constructed.{told_d, told_first, told_later}
use Rattle.jumps.specs.Jumps.{mismatch_jump}
use Rattle.tables.proofs.Laws.Holdings.{usable}
use Rattle.questions.proofs.Laws.Askings.{mismatch_joined, mismatch_none}
use Rattle.questions.proofs.Laws.Replies.{handed_jump, granted, mismatch_posed}
use Rattle.questions.proofs.mismatch.Goals as goal

pub returns-in_err-checked : goal.returns-in_err-checked
returns-in_err-checked c =
    handed_jump _ _ _ _ c.from_residual.ensures.1 (told_first _ _ _ _ (mismatch_joined _ _ _ _) c.in_err-checked.ensures)

pub returns-in_err-of_point : goal.returns-in_err-of_point
returns-in_err-of_point c =
    handed_jump _ _ _ _ c.from_residual-in_err-of_point.ensures.1
    (told_later _ _ _ _ (mismatch_joined _ _ _ _) c.in_ok-checked.ensures.0 c.in_err-of_point.ensures)

pub invariant_of-compared_of : goal.invariant_of-compared_of
invariant_of-compared_of c =
    let at = mismatch_posed _ _ _ c.in_ok-checked.ensures _ c.in_ok-of_point.ensures in
    record { usable = usable _ _ _ _ (told_d _ _ _ at.carries c.d-d.ensures) at.ok.asked }

pub overflow_sub-p : goal.overflow_sub-p
overflow_sub-p c = (mismatch_posed _ _ _ c.in_ok-checked.ensures _ c.in_ok-of_point.ensures).ok.from_one

pub bounds-compared-p : goal.bounds-compared-p
bounds-compared-p c =
    let at = mismatch_posed _ _ _ c.in_ok-checked.ensures _ c.in_ok-of_point.ensures in
    omega (arith, at.ok.from_one, at.ok.to_last, at.ok.asked.few)

pub returns : goal.returns
returns c =
    let at = mismatch_posed _ _ _ c.in_ok-checked.ensures _ c.in_ok-of_point.ensures in
    let p = c.args.p in
    granted _ _ _ (mismatch_none at.ok)
    (c.from.ensures ∙ c.compared_of-compared.ensures.1.at (p - 1) (omega (arith, at.ok.from_one, at.ok.to_last))
    ∙ ap (λ d. mismatch_jump d c.args.points.now (p - 1)) (told_d _ _ _ at.carries c.d-d.ensures))
