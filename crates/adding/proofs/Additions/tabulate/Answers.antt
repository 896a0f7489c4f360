-- `adding::Additions::tabulate` meets its contract: the rows of the readings below a are laid.
use native.Mathlib.Nat.{add-sub_cancel_left}
use Rattle.adding.proofs.Laws.Filling.{listed_more}
use Rattle.adding.proofs.Additions.tabulate.Goals as goal

pub loop-a-preserved : goal.loop-a-preserved
loop-a-preserved c =
    rw add-sub_cancel_left
    (listed_more _ _ _ _ _ _ _ _ _ c.loop-a.invariant c.loop-a-test.true (rw add-sub_cancel_left at c.fill_row.auto.row) c.fill_row.ensures)
