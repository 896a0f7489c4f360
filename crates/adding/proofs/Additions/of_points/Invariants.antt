-- `adding::Additions::of_points` meets its contract: the points that are left stand in front, and those behind them are laid.
use Rattle.std.proofs.Common.{◌≡◌, length, take}
use Rattle.adding.specs.Costs.{added_of}
use Rattle.adding.proofs.Laws.Filling.{Filled}
use Rattle.adding.proofs.Additions.of_points.Given as goal

abbrev pub invariant-loop-p : goal.invariant-loop-p
invariant-loop-p l =
    let left = l.p-iterator.iter.rest.now in
    record {
      front : left ≡ take (length left) l.points;
      filled : Filled l.self.l (length l.points) (λ i. added_of l.self.d l.self.g l.points i l.a) l.w (length left);
    }
