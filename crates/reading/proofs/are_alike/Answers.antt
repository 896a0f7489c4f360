-- `reading::are_alike` meets its contract. Assumes nothing.
use Rattle.std.proofs.Common.{ℕ, leb, ap}
use Rattle.fit.specs.Reading.{alike}
use Rattle.reading.proofs.are_alike.Goals as goal

pub returns : goal.returns
unfolding alike
returns c = ap (λ (v : ℕ). leb v c.args.k) c.differ.ensures.0
