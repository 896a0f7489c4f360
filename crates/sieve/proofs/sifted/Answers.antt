-- `sieve::sifted` meets its contract: pass by pass, until no window is left or every point was looked at. Assumes nothing.
use Prim.Native.Nat.{◌+◌}
use mathlib.Core.Path.{sym, ◌∙◌}
use native.Mathlib.Omega.{arith}
use Rattle.sieve.proofs.Laws.Passes.{marked_all, left_fit, none_sifted, sifted_as}
use Rattle.sieve.proofs.sifted.Goals as goal

pub sift-requires-clause-entries : goal.sift-requires-clause-entries
sift-requires-clause-entries c = marked_all _ _ _ _

pub returns-then-not-sift : goal.returns-then-not-sift
returns-then-not-sift c = none_sifted _ _ _ _ 1 (omega arith) (sym c.sift.ensures.1 ∙ c.if-not-sift.true)

pub returns-then-not-sift-2 : goal.returns-then-not-sift-2
returns-then-not-sift-2 c = none_sifted _ _ _ _ (c.loop-i.i + 1) (omega arith) (sym c.sift-in-loop-i.ensures.1 ∙ c.if-not-sift-2.true)

pub returns : goal.returns
returns c = let inv = c.loop-i.invariant in sifted_as _ _ _ _ _ (left_fit _ _ _ _ _ (omega arith) (omega arith)) inv.0 inv.1
