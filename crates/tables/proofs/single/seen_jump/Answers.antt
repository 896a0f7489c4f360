-- `tables::single::seen_jump` meets its contract: the rule counts from the greatest of the first m - 1 points. Assumes nothing.
use mathlib.Core.Path.{sym}
use native.Mathlib.Omega.{arith}
use Rattle.jumps.proofs.Laws.Sizes.{seen_greatest}
use Rattle.tables.proofs.single.seen_jump.Goals as goal

pub returns : goal.returns
returns c = (rw c.greatest_near.ensures.0 (sym (seen_greatest _ _ _ (omega arith))), omega arith)
