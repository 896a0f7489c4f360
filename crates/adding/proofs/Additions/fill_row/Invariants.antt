-- `adding::Additions::fill_row` meets its contract: the words below j are laid.
use Rattle.std.proofs.Common.{ℕ, ◌+◌, ◌*◌, ◌<◌, get_or, length}
use Rattle.counters.specs.Word.{Laid}
use Rattle.adding.specs.Costs.{added_of, with_entering}
use Rattle.adding.specs.Tables.{padded}
use Rattle.adding.proofs.Additions.fill_row.Given as goal

abbrev pub invariant-loop-j : goal.invariant-loop-j
invariant-loop-j l =
    let k = l.self in
    (q : ℕ) → q < l.j → Laid k.l k.per (get_or l.row q 0) (λ t. padded (length l.points) (λ i. with_entering k.enter (added_of k.d k.g l.points) i l.a) (q * k.per + t))
