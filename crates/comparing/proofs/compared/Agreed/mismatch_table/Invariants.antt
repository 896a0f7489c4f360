-- `Agreed::mismatch_table` meets its contract: the points that stand first in the order have their jumps. Assumes nothing.
use lib.ListN.{length, get_or}
use Rattle.fit.specs.Refusal.{max_points}
use Rattle.jumps.specs.Jumps.{mismatch_jump}
use Rattle.comparing.specs.Order.{compare_order}
use Rattle.comparing.proofs.Laws.Writings.{Filling}
use Rattle.comparing.proofs.compared.Agreed.mismatch_table.Given as goal

abbrev pub invariant-loop-j : goal.invariant-loop-j
invariant-loop-j l =
    Filling (mismatch_jump l.self.ordered.points.d l.self.ordered.points.points.now)
    (λ i. get_or (compare_order l.self.ordered.points.d l.self.ordered.points.points.now) i 0) (length l.self.ordered.points.points.now) max_points l.j l.table
