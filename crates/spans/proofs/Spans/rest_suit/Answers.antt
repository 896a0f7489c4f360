-- `spans::rest_suit` meets its contract: the first i readings suit. Assumes nothing.
use mathlib.Core.Path.{◌≡◌, sym, ◌∙◌}
use native.Mathlib.Omega.{arith}
use Rattle.fit.proofs.Laws.Rules.{fit_more, fit_far}
use Rattle.spans.proofs.Spans.rest_suit.Goals as goal

pub loop-i-preserved : goal.loop-i-preserved
loop-i-preserved c =
    (omega arith, omega arith, omega arith, fit_more _ _ _ _ c.loop-i.invariant.3 (sym c.suits.ensures ∙ c.if-not-suits.false))

pub returns-then-not-suits : goal.returns-then-not-suits
returns-then-not-suits c =
    sym (fit_far _ _ _ _ c.loop-i.i (omega arith) (sym c.suits.ensures ∙ c.if-not-suits.true))

pub returns : goal.returns
returns c =
    let all : c.loop-i.i ≡ c.args.self.now.m = omega arith in
    sym (rw all at c.loop-i.invariant.3)
