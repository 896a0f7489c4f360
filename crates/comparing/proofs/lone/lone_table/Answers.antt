-- `lone_table` meets its contract: a table of the lone jumps. Assumes nothing.
use borrow.Author.Rules.{rules}
use Rattle.comparing.proofs.lone.lone_table.Goals as goal

pub returns : goal.returns
returns c = c.table_of.ensures _ (λ p v l e. search rules)
