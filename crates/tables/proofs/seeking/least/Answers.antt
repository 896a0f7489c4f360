-- `least` meets its contract: the numbers below k are tried and fail. Assumes nothing.
use native.Mathlib.Omega.{arith}
use Rattle.jumps.proofs.Laws.Leasts.{up_hit, up_miss, up_end}
use Rattle.tables.proofs.seeking.least.Goals as goal

pub returns-then-passes-clause-same : goal.returns-then-passes-clause-same
returns-then-passes-clause-same g c = λ test each. up_hit (c.loop-k.invariant test each) (each _ _ (omega arith) c.passes.ensures) c.if-passes.true

pub loop-k-preserved : goal.loop-k-preserved
loop-k-preserved g c = λ test each. up_miss (c.loop-k.invariant test each) (each _ _ (omega arith) c.passes.ensures) c.if-passes.false (omega arith)

pub returns-clause-same : goal.returns-clause-same
returns-clause-same g c =
    λ test each. let u = c.loop-k.invariant test each in omega (arith, u.left, up_end u (omega arith))
