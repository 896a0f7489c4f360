-- `seen_reading` meets its contract: refused, or the jump over the spans, which is that of the points. Assumes nothing.
use Prim.Native.Nat.{ℕ}
use mathlib.Core.Path.{ap, ◌∙◌}
use native.Mathlib.Omega.{arith}
use Rattle.fit.specs.Spans.{rule_in}
use Rattle.jumps.specs.Jumps.{seen_jump}
use Rattle.jumps.proofs.Laws.OverSpans.{seen_over_spans}
use Rattle.questions.proofs.Laws.Replies.{handed_jump, granted, spanned_asked}
use Rattle.questions.proofs.seen_reading.Goals as goal

pub returns-in_err-spans : goal.returns-in_err-spans
returns-in_err-spans c = handed_jump _ _ _ _ c.from_residual.ensures.1 c.in_err-spans.ensures

pub seen_jump-requires : goal.seen_jump-requires
seen_jump-requires c = let at = c.in_ok-spans.ensures in omega (arith, at.1.points, (spanned_asked _ _ _ at).some)

pub returns : goal.returns
returns c =
    let at = c.in_ok-spans.ensures in
    granted _ _ _ at.0
    (c.seen_jump.ensures.0 ∙ ap (λ (m : ℕ). seen_jump (rule_in c.in_ok-spans.spans.rows).fit m c.args.a) at.1.points
    ∙ seen_over_spans _ _ _ _ at.1.rows (spanned_asked _ _ _ at) _)
