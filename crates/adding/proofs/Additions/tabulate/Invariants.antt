-- `adding::Additions::tabulate` meets its contract: the rows of the readings below a are laid.
use Rattle.std.proofs.Common.{length}
use Rattle.adding.specs.Costs.{added_of, with_entering}
use Rattle.adding.proofs.Laws.Filling.{Listed}
use Rattle.adding.proofs.Additions.tabulate.Given as goal

abbrev pub invariant-loop-a : goal.invariant-loop-a
invariant-loop-a l =
    let k = l.self in
    Listed k.l k.per l.used (length l.points) (with_entering k.enter (added_of k.d k.g l.points)) l.initial.table l.table l.a
