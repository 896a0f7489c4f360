-- `tables::single::seen_table` meets its contract: a table of the rule. Assumes nothing.
use mathlib.Core.Path.{sym}
use native.Mathlib.Omega.{arith}
use Rattle.jumps.proofs.Laws.Sizes.{seen_greatest}
use Rattle.tables.proofs.Laws.Holdings.{holds_as}
use Rattle.tables.proofs.single.seen_table.Goals as goal

pub returns : goal.returns
returns c = holds_as _ _ _ _ c.jump_table.ensures (λ a l. sym (seen_greatest _ _ a (omega arith)))
