-- `reading::least_near` meets its contract. Assumes nothing.
use Rattle.std.proofs.Common.{arith}
use Rattle.fit.specs.Reading.{lowest}
use Rattle.reading.proofs.least_near.Goals as goal

pub returns : goal.returns
unfolding lowest
returns c = omega arith
