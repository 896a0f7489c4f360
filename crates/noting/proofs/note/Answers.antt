-- `noting::note` meets its contract: a place is counted, and listed with its sum; another window is only counted. Assumes nothing.
use Rattle.std.proofs.Common.{refl, true, false}
use Rattle.fit.proofs.Laws.Answers.{noted_hit, noted_miss}
use Rattle.noting.proofs.note.Goals as goal

pub returns-in-Some-clause-noted : goal.returns-in-Some-clause-noted
returns-in-Some-clause-noted c = rw c.in-Some.is (noted_hit true _ _ _ _ refl c.lower.ensures c.put.ensures c.put-in-Some.ensures)

pub returns-in-None-clause-noted : goal.returns-in-None-clause-noted
returns-in-None-clause-noted c = rw (c.in-None.is, c.note_none.ensures) (noted_miss false 0 _ _ _ refl)
