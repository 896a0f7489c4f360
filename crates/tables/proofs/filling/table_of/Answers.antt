-- `table_of` meets its contract: the first i entries hold what is asked for. Assumes nothing.
use native.Mathlib.Omega.{arith}
use Rattle.tables.proofs.Laws.Holdings.{holds_more}
use Rattle.tables.proofs.filling.table_of.Goals as goal

pub loop-i-preserved : goal.loop-i-preserved
loop-i-preserved g c = λ f each. holds_more f _ _ _ (c.loop-i.invariant f each) (omega arith) (each _ _ (omega arith) c.entry.ensures)
