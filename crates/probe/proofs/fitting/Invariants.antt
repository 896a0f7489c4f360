-- `probe::fitting` meets its contract: the mask has the windows that suit their points less than k from the probe. Assumes nothing.
use mathlib.Core.Bool.{Bool}
use Prim.Native.Nat.{ℕ, ◌-◌, ◌≤◌}
use Rattle.marks.specs.Marks.{Marks, MarkTable}
use Rattle.probe.specs.Around.{around_suits}
use Rattle.probe.proofs.fitting.Given as goal

abbrev pub invariant-loop-k : goal.invariant-loop-k
invariant-loop-k l =
    (l.mask ≤ l.worth)
    × ((fit : ℕ → ℕ → Bool) → MarkTable l.near.m fit l.near.masks → Marks l.near.m (around_suits fit l.near.m l.recording l.q 1) l.worth → Marks l.near.m (around_suits fit l.near.m l.recording l.q (l.k - 1)) l.mask)
