-- `block::note_scored` meets its contract: 16 windows after the other. Assumes nothing.
use native.Mathlib.Omega.{arith}
use Rattle.fit.proofs.Laws.Runs.{running_all, running_end}
use Rattle.noting.proofs.Laws.Handing.{same_on}
use Rattle.block.proofs.note_scored.Goals as goal

pub loop-k-preserved : goal.loop-k-preserved
loop-k-preserved c =
    (running_all _ _ _ c.loop-k.invariant.0 _ _ (omega arith) (omega arith) c.note_sixteen-found.ensures.tried, same_on c.loop-k.invariant.1 c.note_sixteen-found.ensures.same)

pub returns-clause-tried : goal.returns-clause-tried
returns-clause-tried c = running_end _ _ _ c.loop-k.invariant.0 (omega arith)
