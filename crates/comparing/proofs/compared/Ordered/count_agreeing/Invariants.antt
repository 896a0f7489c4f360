-- `Ordered::count_agreeing` meets its contract: the first j of the order agree. Assumes nothing.
use Rattle.jumps.specs.Jumps.{agrees_at}
use Rattle.comparing.proofs.Laws.Orders.{Led}
use Rattle.comparing.proofs.compared.Ordered.count_agreeing.Given as goal

abbrev pub invariant-loop-j : goal.invariant-loop-j
invariant-loop-j l = Led l.self.points.d l.self.points.points.now (agrees_at l.self.points.d l.self.points.points.now l.k) l.j
