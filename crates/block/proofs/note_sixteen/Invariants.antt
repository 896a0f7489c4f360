-- `block::note_sixteen` meets its contract: at once where the least score is above gamma, and else one by one. Assumes nothing.
use Prim.Native.Nat.{◌+◌, ◌-◌}
use Rattle.fit.specs.Trying.{run}
use Rattle.fit.proofs.Laws.Tryings.{Trying}
use Rattle.block.specs.Block.{told_by}
use Rattle.noting.specs.Lists.{lent_in, Same}
use Rattle.block.proofs.note_sixteen.Given as goal

abbrev pub invariant-loop-j : goal.invariant-loop-j
invariant-loop-j l =
    Trying (told_by l.scores l.s l.gamma) (run (l.s + l.at) 16) (run (l.s + l.j) (l.s + l.at + 16 - (l.s + l.j))) (l.s + l.j) (lent_in l.initial.lists) (lent_in l.lists) l.initial.found l.found
    × Same l.initial.lists l.lists
