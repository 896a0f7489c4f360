-- `Ordered::agreeing_table` meets its contract: a table of the counts. Assumes nothing.
use borrow.Author.Rules.{rules}
use Rattle.comparing.proofs.compared.Ordered.agreeing_table.Goals as goal

pub returns : goal.returns
returns c = c.table_of.ensures _ (λ k v l e. search rules)
