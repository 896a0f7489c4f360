-- `window::check::check_at` meets its contract: the first i readings suit their points, and the sum is theirs (`Matched`). Assumes nothing.
use mathlib.Core.Path.{sym, ◌∙◌}
use native.Mathlib.Omega.{arith}
use Rattle.fit.proofs.Laws.Rules.{matched_none, matched_more}
use Rattle.fit.proofs.Laws.Verdicts.{tells_far, tells_fits, tells_over}
use Rattle.window.proofs.check.check_at.Goals as goal

pub loop-i-init : goal.loop-i-init
loop-i-init c = (omega arith, matched_none _ _ _ _)

pub loop-i-preserved : goal.loop-i-preserved
loop-i-preserved c =
    (omega arith, matched_more _ _ _ _ _ _ c.loop-i.invariant.1 (sym c.suits.ensures ∙ c.if-not-suits.false) c.cost-sum.ensures.0 c.cost-sum.ensures.1)

pub returns-then-not-suits : goal.returns-then-not-suits
returns-then-not-suits c =
    tells_far _ _ _ _ _ _ c.loop-i.i (omega arith) c.loop-i.invariant.1 (sym c.suits.ensures ∙ c.if-not-suits.true)

pub returns-then-sum-gamma : goal.returns-then-sum-gamma
returns-then-sum-gamma c =
    tells_fits _ _ _ _ _ _ c.loop-i.i c.loop-i.sum (omega arith) c.loop-i.invariant.1 c.if-sum-gamma.true

pub returns-else-sum-gamma : goal.returns-else-sum-gamma
returns-else-sum-gamma c =
    tells_over _ _ _ _ _ _ c.loop-i.i c.loop-i.sum (omega arith) c.loop-i.invariant.1 c.if-sum-gamma.false
