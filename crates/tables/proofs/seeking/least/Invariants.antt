-- `least` meets its contract: the numbers below k are tried and fail. Assumes nothing.
use Prim.Native.Nat.{ℕ, ◌-◌, ◌<◌}
use mathlib.Core.Path.{◌≡◌}
use mathlib.Core.Bool.{Bool}
use Rattle.jumps.specs.Least.{least}
use Rattle.jumps.proofs.Laws.Leasts.{Upward}
use Rattle.tables.proofs.seeking.least.Given as goal

abbrev pub invariant-loop-k : goal.invariant-loop-k
invariant-loop-k g l = (test : ℕ → Bool) → ((k : ℕ) (b : Bool) → k < l.m → goal.F-post g l.passes k b → b ≡ test k) → Upward test l.m (least test 1 (l.m - 1)) l.k
