-- `first::over_spans` meets its contract: it goes along last's walk as long as no window is a place. Assumes nothing.
use mathlib.Core.Path.{refl}
use native.Mathlib.Omega.{arith}
use Rattle.last.proofs.Laws.Seeking.{walk_finds, stands_first, stands_next, stands_forth, stands_try, stands_end}
use Rattle.first.proofs.Laws.Looking.{looked_start, looked_on, first_at, first_none}
use Rattle.first.proofs.over_spans.Goals as goal

pub loop-q-init : goal.loop-q-init
loop-q-init c =
    let first = stands_first _ _ _ _ _ _ c.requires (λ i. omega (arith, c.type_inv.recording i)) _ c.tried_from-q.ensures in
    (first.0, looked_start _ _ first.1)

pub returns-then-is_place : goal.returns-then-is_place
returns-then-is_place c =
    let inv = c.loop-q.invariant in
    first_at _ _ (walk_finds _ _ _ _ _ _ inv.0.walkable) _ _ _ _ inv.1 (stands_try _ _ _ _ _ _ _ inv.0 (omega arith) _ _ refl refl)
    c.is_place.ensures c.if-is_place.true

pub loop-q-smaller : goal.loop-q-smaller
loop-q-smaller c =
    omega (arith, stands_forth _ _ _ _ _ _ _ c.loop-q.invariant.0 (omega arith) _ _ c.lands_at-landing.ensures c.tried_from-q-in-loop-q.ensures)

pub loop-q-preserved : goal.loop-q-preserved
loop-q-preserved c =
    let inv = c.loop-q.invariant in
    let lands = c.lands_at-landing.ensures in (
      stands_next _ _ _ _ _ _ _ inv.0 (omega arith) _ _ lands c.tried_from-q-in-loop-q.ensures,
      looked_on _ _ _ _ _ _ inv.1 (stands_try _ _ _ _ _ _ _ inv.0 (omega arith) _ _ lands c.tried_from-q-in-loop-q.ensures)
          c.is_place.ensures c.if-is_place.false
          (omega (arith, inv.0.from, stands_forth _ _ _ _ _ _ _ inv.0 (omega arith) _ _ lands c.tried_from-q-in-loop-q.ensures)),
    )

pub returns : goal.returns
returns c =
    let inv = c.loop-q.invariant in
    first_none _ _ (walk_finds _ _ _ _ _ _ inv.0.walkable) _ _ inv.1 (stands_end _ _ _ _ _ _ _ inv.0 (omega arith))
