-- After so many places their lines stand on the page.
use Rattle.std.proofs.Common.{take}
use Rattle.page.specs.Puts.{Puts}
use Rattle.lines.specs.Lines.{lines_of}
use Rattle.lines.proofs.put_places.Given as goal

abbrev pub invariant-loop-place : goal.invariant-loop-place
invariant-loop-place l = Puts l.initial.page (lines_of (take l.place-index l.places)) l.page
