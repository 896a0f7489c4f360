-- `Prepared::tried_from` meets its contract: the jumps lead from where it stands to where they led from the start. Assumes nothing.
use Prim.Native.Nat.{◌-◌}
use mathlib.Core.Path.{◌≡◌}
use lib.ListN.{length}
use Rattle.last.specs.Walk.{seek}
use Rattle.last.proofs.walk.Prepared.tried_from.Given as goal

abbrev pub invariant-loop-q : goal.invariant-loop-q
invariant-loop-q l = seek l.self.table l.recording l.from ≡ seek l.self.table l.recording l.q

abbrev pub decreases-loop-q : goal.decreases-loop-q
decreases-loop-q l = length l.recording - l.q
