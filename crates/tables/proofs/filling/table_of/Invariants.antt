-- `table_of` meets its contract: the first i entries hold what is asked for. Assumes nothing.
use Prim.Native.Nat.{ℕ, ◌<◌}
use mathlib.Core.Path.{◌≡◌}
use Rattle.tables.specs.Holding.{Holds}
use Rattle.tables.proofs.filling.table_of.Given as goal

abbrev pub invariant-loop-i : goal.invariant-loop-i
invariant-loop-i g l = (f : ℕ → ℕ) → ((i v : ℕ) → i < l.m → goal.F-post g l.entry i v → v ≡ f i) → Holds f l.i g.row.N l.table
