-- `spans::sum_at` meets its contract: the total is that of the first i readings. Assumes nothing.
use mathlib.Core.Path.{◌≡◌, sym}
use native.Mathlib.Omega.{arith}
use Rattle.fit.proofs.Laws.Rules.{sum_none, sum_more}
use Rattle.spans.proofs.Spans.sum_at.Goals as goal

pub loop-i-init : goal.loop-i-init
loop-i-init c = (omega arith, omega arith, omega arith, omega arith, sym (sum_none _ _ _))

pub loop-i-preserved : goal.loop-i-preserved
loop-i-preserved c =
    let inv = c.loop-i.invariant in
    (omega arith, omega arith, omega arith, omega (arith, inv.3, c.cost-total.ensures.1), rw (sum_more _ _ _ c.loop-i.i, inv.4, c.cost-total.ensures.0))

pub returns : goal.returns
returns c =
    let all : c.loop-i.i ≡ c.args.self.now.m = omega arith in
    rw all at c.loop-i.invariant.4
