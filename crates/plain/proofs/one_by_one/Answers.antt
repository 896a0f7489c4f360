-- `plain::one_by_one` meets its contract: it tries one window after the other. Assumes nothing.
use mathlib.Core.Path.{refl}
use native.Mathlib.Omega.{arith}
use Rattle.fit.proofs.Laws.Runs.{running_one, running_end}
use Rattle.noting.proofs.Laws.Handing.{same_on}
use Rattle.plain.proofs.one_by_one.Goals as goal

pub loop-s-preserved : goal.loop-s-preserved
loop-s-preserved c =
    (running_one _ _ _ c.loop-s.invariant.0 _ refl (omega arith) c.try_at-found.ensures.tried, same_on c.loop-s.invariant.1 c.try_at-found.ensures.same)

pub returns-clause-tried : goal.returns-clause-tried
returns-clause-tried c = running_end _ _ _ c.loop-s.invariant.0 c.loop-s-test.false
