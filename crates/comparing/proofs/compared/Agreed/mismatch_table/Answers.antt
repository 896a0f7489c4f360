-- `Agreed::mismatch_table` meets its contract: the points that stand first in the order have their jumps. Assumes nothing.
use native.Mathlib.Omega.{arith}
use Rattle.fit.specs.Refusal.{max_points}
use Rattle.comparing.proofs.Laws.Orders.{order_has}
use Rattle.comparing.proofs.Laws.Orderings.{head_long, compared_there, compared_inside}
use Rattle.comparing.proofs.Laws.Writings.{filling_none, filling_more, filling_end}
use Rattle.comparing.proofs.compared.Agreed.mismatch_table.Goals as goal

pub loop-j-init : goal.loop-j-init
loop-j-init c = filling_none _ _ _ max_points

pub bounds-table-p : goal.bounds-table-p
bounds-table-p c =
    let o = c.args.self.now.ordered in
    let at = compared_there _ _ _ o.points.usable.few o.ordered _ _ c.loop-j-test.true c.from-p.ensures in
    omega (arith, compared_inside at, o.points.usable.few)

pub loop-j-preserved : goal.loop-j-preserved
loop-j-preserved c =
    let o = c.args.self.now.ordered in
    let few = o.points.usable.few in
    let at = compared_there _ _ _ few o.ordered _ _ c.loop-j-test.true c.from-p.ensures in
    filling_more _ _ _ max_points _ _ _ c.loop-j.invariant at.inside at.point (compared_inside at) few c.mismatch_jump.ensures.0

pub returns : goal.returns
returns c =
    let o = c.args.self.now.ordered in
    filling_end _ _ _ max_points _ c.loop-j.invariant (omega (arith, head_long _ _ _ o.points.usable.few o.ordered)) (order_has o.points.d o.points.points.now)
