-- `stops::next_stop` meets its contract: the probes before y[q] are passed. Assumes nothing.
use mathlib.Core.Bool.{Bool}
use Prim.Native.Nat.{ℕ, ◌-◌, ◌*◌, ◌≤◌}
use lib.ListN.{length}
use Rattle.fit.specs.Reading.{highest}
use Rattle.stops.specs.Passing.{Tables, Passed}
use Rattle.stops.proofs.next_stop.Given as goal

abbrev pub invariant-loop-q : goal.invariant-loop-q
invariant-loop-q l =
    (l.from ≤ l.q) × (l.q ≤ length l.recording) × (l.windows ≤ highest * l.q)
    × ((fit : ℕ → ℕ → Bool) → Tables l.near.m fit l.near.masks l.near.counts → Passed fit l.near.m l.recording l.from l.q l.windows)

abbrev pub decreases-loop-q : goal.decreases-loop-q
decreases-loop-q l = length l.recording - l.q
