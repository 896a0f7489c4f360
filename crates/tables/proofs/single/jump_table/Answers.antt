-- `jump_table` meets its contract: a table of the rule. Assumes nothing.
use borrow.Author.Rules.{rules}
use Rattle.tables.proofs.single.jump_table.Goals as goal

pub returns : goal.returns
returns c = c.table_of.ensures _ (λ a v l p. search rules)
