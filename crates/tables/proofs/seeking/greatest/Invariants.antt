-- `greatest` meets its contract: the numbers from i on are tried and fail. Assumes nothing.
use Prim.Native.Nat.{ℕ, ◌<◌}
use mathlib.Core.Path.{◌≡◌}
use mathlib.Core.Bool.{Bool}
use Rattle.jumps.proofs.Laws.Leasts.{Downward}
use Rattle.tables.proofs.seeking.greatest.Given as goal

abbrev pub invariant-loop-i : goal.invariant-loop-i
invariant-loop-i g l = (test : ℕ → Bool) → ((i : ℕ) (b : Bool) → i < l.n → goal.F-post g l.passes i b → b ≡ test i) → Downward test l.n l.i
