-- `leaping::walk` meets its contract: it goes along the walk, told by where the reading after the window stands. Assumes nothing.
use mathlib.Core.Path.{◌≡◌, refl, sym, ◌∙◌}
use native.Mathlib.Omega.{arith}
use Rattle.fit.proofs.Laws.Alongs.{along_start, along_same}
use Rattle.fit.proofs.Laws.Answers.{noted_miss}
use Rattle.fit.specs.Answer.{nothing}
use Rattle.leaping.proofs.Laws.Prepared.{first_in, first_inside, first_near, none_leading, far_false, all_near, table_inside, near_goes, far_goes, along_step, walked, walked_last, walk_begins}
use Rattle.noting.proofs.Laws.Handing.{same_still, same_on}
use Rattle.noting.specs.Lists.{lent_in}
use Rattle.leaping.proofs.walk.Goals as goal

pub bounds-points-first : goal.bounds-points-first
bounds-points-first c = first_in c.requires.walkable c.from-first.ensures

pub bounds-points-first-2 : goal.bounds-points-first-2
bounds-points-first-2 c = first_in c.requires.walkable c.from-first.ensures

pub overflow_sub-more : goal.overflow_sub-more
overflow_sub-more c =
    omega (arith, c.most_near.ensures, c.least_near-least.ensures, c.requires.walkable.ok.asked.real _ (first_in c.requires.walkable c.from-first.ensures))

pub bounds-compared-first : goal.bounds-compared-first
bounds-compared-first c = omega (arith, first_in c.requires.walkable c.from-first.ensures, c.requires.walkable.ok.asked.few)

pub loop-e-init : goal.loop-e-init
loop-e-init c =
    let known = c.requires.walkable in
    let zeros = c.default-found.ensures in
    let none : c.default-found.result ≡ nothing = λ i. record { total = zeros.0 i; tried = zeros.1.0 i; least = zeros.1.1 i } in (
      record {
        ready = known;
        readings = λ i. omega (arith, c.type_inv.recording i);
        whole = c.full_jump-full.ensures;
        foremost = c.from-first.ensures;
        lower = c.least_near-least.ensures;
        upper = omega (arith, c.most_near.ensures, c.least_near-least.ensures, known.ok.asked.real _ (first_in c.requires.walkable c.from-first.ensures));
        leaping = c.leap_table-leaps.ensures;
      },
      omega arith,
      along_same (walk_begins _ _ _) (along_start _ _ _ _ none),
      same_still _,
    )

pub bounds-recording-s : goal.bounds-recording-s
bounds-recording-s c = let known = c.loop-e.invariant.0 in omega (arith, first_inside known)

pub near_points-leading-requires : goal.near_points-leading-requires
near_points-leading-requires c =
    let known = c.loop-e.invariant.0 in
    let ok = known.ready.ok.asked in
    let near = sym (first_near known _ _ _ refl c.is_among.ensures) ∙ c.if-is_among.true in record {
      holds_order = (known.ready.orders, omega arith);
      first_near = rw (← known.foremost) near;
    }

pub compared_jump-jump-requires : goal.compared_jump-jump-requires
compared_jump-jump-requires c = table_inside c.loop-e.invariant.0 _ _ c.near_points-leading.ensures.0

pub try_compared-found-requires : goal.try_compared-found-requires
try_compared-found-requires c =
    let same = c.requires.same_points in
    let inv = c.loop-e.invariant in
    let ok = inv.0.ready.ok in
    let led = c.near_points-leading.ensures.0 in record {
      inside = (omega (arith, same), ok.asked.gamma_small);
      s_bound = (omega (arith, ok.short), omega (arith, ok.short, inv.2.order, inv.2.room), omega (arith, ok.short, inv.2.room));
      s_value = rw same (far_false inv.0 _ _ led, all_near inv.0 _ _ (omega arith) led);
    }

pub overflow_add-e : goal.overflow_add-e
overflow_add-e c = let ok = c.loop-e.invariant.0.ready.ok in omega (arith, (near_goes c.loop-e.invariant.0 _ _ _ _ _ c.loop-e.invariant.1 c.loop-e-test.true c.near_points-leading.ensures.0 c.compared_jump-jump.ensures c.jump_at.ensures.0 c.max-longer.ensures).short, ok.short, ok.asked.few)

pub loop-e-smaller-then-is_among : goal.loop-e-smaller-then-is_among
loop-e-smaller-then-is_among c = omega (arith, (near_goes c.loop-e.invariant.0 _ _ _ _ _ c.loop-e.invariant.1 c.loop-e-test.true c.near_points-leading.ensures.0 c.compared_jump-jump.ensures c.jump_at.ensures.0 c.max-longer.ensures).forth)

pub loop-e-preserved-then-is_among : goal.loop-e-preserved-then-is_among
loop-e-preserved-then-is_among c =
    let inv = c.loop-e.invariant in
    let on = near_goes inv.0 _ _ _ _ _ inv.1 c.loop-e-test.true c.near_points-leading.ensures.0 c.compared_jump-jump.ensures c.jump_at.ensures.0 c.max-longer.ensures in
    (inv.0, omega (arith, inv.1), along_step inv.0 _ _ _ (omega arith) on.next inv.2 (rw c.requires.same_points at c.try_compared-found.ensures.tried), same_on inv.3 c.try_compared-found.ensures.same)

pub loop-e-smaller : goal.loop-e-smaller
loop-e-smaller c = omega (arith, (far_goes c.loop-e.invariant.0 _ _ c.loop-e.invariant.1 c.loop-e-test.true (sym (first_near c.loop-e.invariant.0 _ _ _ refl c.is_among.ensures) ∙ c.if-is_among.false) c.jump_at-e.ensures.0).forth)

pub loop-e-preserved : goal.loop-e-preserved
loop-e-preserved c =
    let inv = c.loop-e.invariant in
    let known = inv.0 in
    let miss = far_false known _ 0 (none_leading known _ (sym (first_near c.loop-e.invariant.0 _ _ _ refl c.is_among.ensures) ∙ c.if-is_among.false)) known.ready.ok.asked.some in
    (known, omega (arith, inv.1), along_step known _ _ _ (omega arith) (far_goes c.loop-e.invariant.0 _ _ c.loop-e.invariant.1 c.loop-e-test.true (sym (first_near c.loop-e.invariant.0 _ _ _ refl c.is_among.ensures) ∙ c.if-is_among.false) c.jump_at-e.ensures.0).next inv.2 (rw c.note_none-found.ensures (noted_miss _ _ _ _ _ miss)), inv.3)

pub returns-then-e-recording-clause-answer : goal.returns-then-e-recording-clause-answer
returns-then-e-recording-clause-answer c =
    let inv = c.loop-e.invariant in
    walked_last inv.0 _ (omega arith) inv.2 (rw c.requires.same_points at c.try_at.ensures.tried)

pub returns-clause-answer : goal.returns-clause-answer
returns-clause-answer c =
    let at-loop = c.loop-e in
    walked at-loop.invariant.0 _ {held = lent_in at-loop.lists} (omega arith) at-loop.invariant.2
