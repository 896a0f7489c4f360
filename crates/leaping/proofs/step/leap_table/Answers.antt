-- `leap_table` meets its contract: each entry is the larger of the two jumps. Assumes nothing.
use borrow.Author.Rules.{rules}
use Rattle.leaping.proofs.step.leap_table.Goals as goal

pub returns : goal.returns
returns c = c.table_of.ensures _ (λ a v l e. search rules)
