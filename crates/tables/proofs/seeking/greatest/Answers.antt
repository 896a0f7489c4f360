-- `greatest` meets its contract: the numbers from i on are tried and fail. Assumes nothing.
use native.Mathlib.Omega.{arith}
use Rattle.jumps.proofs.Laws.Leasts.{down_hit, down_miss, down_end}
use Rattle.tables.proofs.seeking.greatest.Goals as goal

pub returns-then-passes-clause-same : goal.returns-then-passes-clause-same
returns-then-passes-clause-same g c =
    λ test each. omega (arith, (down_hit (c.loop-i.invariant test each) (each _ _ (omega arith) c.passes.ensures) c.if-passes.true (omega arith)).0)

pub loop-i-preserved : goal.loop-i-preserved
loop-i-preserved g c = λ test each. down_miss (c.loop-i.invariant test each) (each _ _ (omega arith) c.passes.ensures) c.if-passes.false (omega arith)

pub returns-clause-same : goal.returns-clause-same
returns-clause-same g c = λ test each. (down_end (c.loop-i.invariant test each) (omega arith)).0
