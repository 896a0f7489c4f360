-- `skip::try_probed` meets its contract: it goes down the points, and tries the windows that the walk has for the probe. Assumes nothing.
use mathlib.Core.Path.{◌≡◌, sym, ◌∙◌}
use native.Mathlib.Omega.{arith}
use Rattle.fit.proofs.Laws.Tryings.{trying_next, trying_pass, trying_end}
use Rattle.skip.proofs.Laws.Walks.{probed_try, probed_far, probed_out, probed_none}
use Rattle.noting.proofs.Laws.Handing.{same_on}
use Rattle.skip.proofs.try_probed.Goals as goal
use Rattle.skip.proofs.try_probed.Goals.{else-suits-via-then-suits+else-q-i, else-suits-via-else-suits}

pub loop-i-preserved-then-q-i : goal.loop-i-preserved-then-q-i
loop-i-preserved-then-q-i c = (
  trying_next _ _ _ _ c.loop-i.invariant.0
      (probed_try _ _ _ _ _ c.loop-i-test.true (sym c.suits.ensures ∙ c.if-suits.true) c.if-q-i.true)
      c.try_at-found.ensures.tried (omega arith),
  same_on c.loop-i.invariant.1 c.try_at-found.ensures.same,
)

pub loop-i-preserved : goal.loop-i-preserved
loop-i-preserved c =
    elim c.else-suits.branch [
      | else-suits-via-then-suits+else-q-i w ↦ (
        trying_pass _ _ _ c.loop-i.invariant.0
            (probed_out _ _ _ _ _ c.loop-i-test.true (sym c.suits.ensures ∙ w.if-suits.true) w.if-q-i.false)
            (omega arith),
        c.loop-i.invariant.1,
      )
      | else-suits-via-else-suits w ↦ (trying_pass _ _ _ c.loop-i.invariant.0 (probed_far _ _ _ _ _ c.loop-i-test.true (sym c.suits.ensures ∙ w.if-suits.false)) (omega arith), c.loop-i.invariant.1)
    ]

pub returns-clause-tried : goal.returns-clause-tried
returns-clause-tried c =
    let none_left : c.loop-i.i ≡ 0 = omega arith in
    trying_end _ _ c.loop-i.invariant.0 (probed_none _ _ _ _ _ none_left)
