-- `scan::Scan::read_lead` meets its contract: after j readings the words follow the separate sums.
use Rattle.scan.specs.Following.{Follows}
use Rattle.scan.proofs.Scan.read_lead.Given as goal

abbrev pub invariant-loop-j : goal.invariant-loop-j
invariant-loop-j l = let scan = l.self in Follows scan.masks scan.used scan.table.now scan.recording.now l.words l.j
