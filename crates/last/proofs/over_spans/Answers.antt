-- `last::over_spans` meets its contract: it goes along the walk, a window at a time. Assumes nothing.
use mathlib.Core.Path.{◌≡◌, refl}
use native.Mathlib.Omega.{arith}
use Rattle.fit.specs.Answer.{nothing}
use Rattle.fit.proofs.Laws.Rules.{by_below}
use Rattle.fit.proofs.Laws.Alongs.{along_start, along_tried, along_same, along_on, along_end}
use Rattle.last.proofs.Laws.Walks.{last_rises, last_has}
use Rattle.last.proofs.Laws.Seeking.{stands_first, stands_next, stands_forth, stands_try, stands_end}
use Rattle.noting.proofs.Laws.Handing.{same_still, same_on}
use Rattle.last.proofs.over_spans.Goals as goal

pub loop-q-init : goal.loop-q-init
loop-q-init c =
    let known = c.requires in
    let zeros = c.default-found.ensures in
    let none : c.default-found.result ≡ nothing = λ i. record { total = zeros.0 i; tried = zeros.1.0 i; least = zeros.1.1 i } in
    let first = stands_first _ _ _ _ _ _ known (λ i. omega (arith, c.type_inv.recording i)) _ c.tried_from-q.ensures in
    (first.0, along_on first.1 (omega arith) (along_start _ _ 0 _ none), same_still _)

pub loop-q-smaller : goal.loop-q-smaller
loop-q-smaller c =
    omega (arith, stands_forth _ _ _ _ _ _ _ c.loop-q.invariant.0 c.loop-q-test.true _ _ c.lands_at-landing.ensures c.tried_from-q-in-loop-q.ensures)

pub loop-q-preserved : goal.loop-q-preserved
loop-q-preserved c =
    let inv = c.loop-q.invariant in
    let at = c.loop-q-test.true in
    let lands = c.lands_at-landing.ensures in (
      stands_next _ _ _ _ _ _ _ inv.0 at _ _ lands c.tried_from-q-in-loop-q.ensures,
      along_tried _ _ _ _ (along_same (stands_try _ _ _ _ _ _ _ inv.0 at _ _ lands c.tried_from-q-in-loop-q.ensures) inv.1)
          c.try_at-found.ensures.tried
          (omega (arith, inv.0.from, stands_forth _ _ _ _ _ _ _ inv.0 at _ _ lands c.tried_from-q-in-loop-q.ensures)),
      same_on inv.2 c.try_at-found.ensures.same,
    )

pub returns-clause-answer : goal.returns-clause-answer
returns-clause-answer c =
    let inv = c.loop-q.invariant in
    let known = inv.0.walkable in
    along_end _ _ _ _ (λ s p. by_below _ _ _ _ s p) refl (last_rises _ _ _ known.ready.some)
    (λ s p. last_has _ _ _ _ known.ready.some s p)
    (along_same (stands_end _ _ _ _ _ _ _ inv.0 (omega arith)) inv.1)
