-- `scan::Scan::read_windows` meets its contract: it goes along the walk that tries every window, one reading for each.
use Rattle.std.proofs.Common.{◌-◌, length}
use Rattle.scan.proofs.Laws.Scanning.{Scanned}
use Rattle.noting.specs.Lists.{lent_in, Same}
use Rattle.scan.proofs.Scan.read_windows.Given as goal

abbrev pub invariant-loop-s : goal.invariant-loop-s
invariant-loop-s l =
    let scan = l.self in
    Scanned scan.masks scan.m scan.used scan.table.now scan.recording.now (length scan.recording.now - l.lead) l.lead l.at l.bit (lent_in l.initial.lists) (lent_in l.lists) l.words l.s l.found
    × Same l.initial.lists l.lists
