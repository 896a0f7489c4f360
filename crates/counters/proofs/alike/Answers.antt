-- `counters::alike` meets its contract: after so many turns so many counters are laid, each at v.
use Rattle.std.proofs.Common.{add-one}
use Rattle.counters.proofs.Laws.Laying.{laid_alike}
use Rattle.counters.proofs.alike.Goals as goal

pub loop-preserved : goal.loop-preserved
loop-preserved c = rw add-one (laid_alike _ _ _ _ _ c.requires.1 c.requires.2 c.loop-test.true c.loop.invariant)
