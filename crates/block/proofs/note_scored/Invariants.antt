-- `block::note_scored` meets its contract: 16 windows after the other. Assumes nothing.
use Prim.Native.Nat.{◌+◌, ◌-◌, ◌*◌}
use Rattle.fit.specs.Trying.{run}
use Rattle.fit.proofs.Laws.Tryings.{Trying}
use Rattle.block.specs.Block.{told_by}
use Rattle.noting.specs.Lists.{lent_in, Same}
use Rattle.block.proofs.note_scored.Given as goal

abbrev pub invariant-loop-k : goal.invariant-loop-k
invariant-loop-k l =
    Trying (told_by l.scores l.s l.gamma) (run l.s 64) (run (l.s + 16 * l.k) (l.s + 64 - (l.s + 16 * l.k))) (l.s + 16 * l.k) (lent_in l.initial.lists) (lent_in l.lists) l.initial.found l.found
    × Same l.initial.lists l.lists
