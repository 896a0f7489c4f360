-- `Ordered::count_agreeing` meets its contract: the first j of the order agree. Assumes nothing.
use mathlib.Core.Path.{sym, ap, ◌∙◌}
use native.Mathlib.Omega.{arith}
use Rattle.comparing.proofs.Laws.Orders.{led_stop, led_end}
use Rattle.comparing.proofs.Laws.Orderings.{head_long, compared_there, compared_inside}
use Rattle.jumps.specs.Jumps.{agrees_at}
use Rattle.comparing.proofs.compared.Ordered.count_agreeing.Goals as goal

pub agrees-requires : goal.agrees-requires
agrees-requires c =
    let o = c.args.self.now in
    compared_inside (compared_there _ _ _ o.points.usable.few o.ordered _ _ c.loop-j-test.true c.from.ensures)

pub returns-then-not-agrees : goal.returns-then-not-agrees
returns-then-not-agrees c =
    let o = c.args.self.now in
    let at = compared_there _ _ _ o.points.usable.few o.ordered _ _ c.loop-j-test.true c.from.ensures in
    (led_stop _ _ _ c.loop-j.invariant (ap (agrees_at o.points.d o.points.points.now c.args.k) (sym at.point) ∙ sym c.agrees.ensures ∙ c.if-not-agrees.true), omega (arith, at.inside))

pub returns : goal.returns
returns c =
    let o = c.args.self.now in
    let ends = head_long _ _ _ o.points.usable.few o.ordered in
    (omega (arith, ends, c.loop-j.invariant.left, led_end _ _ _ c.loop-j.invariant (omega (arith, ends))), omega arith)
