-- `ordinary::spans_of` meets its contract: after i points the spans of the first i of them are laid. Assumes nothing.
use Rattle.std.proofs.Common.{arith, rules, ◌≡◌, ◌∙◌}
use Rattle.fit.proofs.Laws.Compiled.{rows_next, spans_none}
use Rattle.ordinary.proofs.spans_of.Goals as goal

pub loop-i-init : goal.loop-i-init
loop-i-init c = (search rules, spans_none c.args.d c.points-points.result)

pub loop-i-preserved : goal.loop-i-preserved
loop-i-preserved c =
    let few = c.args.profile.now.few in
    let own = c.from-p.ensures in (
      c.loop-i.invariant.0,
      rows_next _ _ _ _ 0 _ _ _ _ _ _ _ (omega (arith, few)) (omega (arith, few)) c.loop-i.invariant.1 (c.from.ensures ∙ c.least_near.ensures) (omega (arith, own)) own own,
    )

pub returns-clause-rows : goal.returns-clause-rows
returns-clause-rows c =
    let e : c.loop-i.i ≡ c.m-m.result = omega arith in
    rw (← c.m-m.ensures, ← c.points-points.ensures, ← e) c.loop-i.invariant.1
