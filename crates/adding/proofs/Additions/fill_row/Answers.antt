-- `adding::Additions::fill_row` meets its contract: the words below j are laid.
use Rattle.std.proofs.Common.{arith}
use Rattle.counters.proofs.Laws.Across.{laid_across}
use Rattle.adding.proofs.Additions.fill_row.Goals as goal

pub returns : goal.returns
returns c = let k = c.args.self in laid_across k.l k.per k.some _ _ (λ j h. c.loop-j.invariant j (omega arith))
