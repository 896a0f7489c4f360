-- `adding::Additions::of_points` meets its contract: the points that are left stand in front, and those behind them are laid.
use Rattle.std.proofs.Common.{◌≡◌, ◌<◌, ◌^◌, ◌∙◌, ap, arith, length, le_trans, mul-le-mul_left}
use Rattle.std.proofs.lemmas.List.{length_push}
use Rattle.adding.specs.Costs.{added, added_of}
use Rattle.adding.proofs.Laws.Costing.{added_le}
use Rattle.adding.proofs.Laws.Filling.{filled_more, last_left, others_left}
use Rattle.adding.proofs.Additions.of_points.Goals as goal

pub loop-p-preserved : goal.loop-p-preserved
loop-p-preserved c =
    let a = c.args in
    let k = a.self in
    let left = c.next.new.self.iter.rest.now in
    let front = rw c.in-Some.ensures.steps at c.loop-p.invariant.front in
    let filled = rw c.in-Some.ensures.steps at c.loop-p.invariant.filled in
    let small : c.at_point.result < 2 ^ k.l = omega (arith, c.at_point.ensures, added_le k.d k.g c.in-Some.field-0.now a.a k.room.each_small, k.room.top) in
    let is : c.at_point.result ≡ added_of k.d k.g a.points.now (length left) a.a =
    c.at_point.ensures ∙ ap (λ p. added k.d k.g p a.a) (last_left a.points.now left _ front) in
    record {
      front = others_left a.points.now left _ front;
      filled = filled_more k.l _ _ _ (length left) _ (rw (length_push left _) at filled) (le_trans (mul-le-mul_left k.l c.requires) k.room.fit) small is;
    }
