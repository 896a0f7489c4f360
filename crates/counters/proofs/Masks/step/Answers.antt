-- `counters::Masks::step` meets its contract, by the law of one reading at a word of 64 bits.
use Prim.Native.Nat.{◌+◌}
use Rattle.counters.specs.Word.{word_bits}
use Rattle.counters.proofs.Laws.Growth.{raised}
use Rattle.counters.proofs.Laws.Steps.{no_wrap, turned_by}
use Rattle.counters.proofs.Masks.step.Goals as goal

pub overflow_add-result : goal.overflow_add-result
overflow_add-result c =
    let a = c.args in
    no_wrap a.self _ a.self.sound c.requires.1 (raised (a.self.b + 1) word_bits a.word a.enters)

pub returns : goal.returns
returns c = turned_by c.args.self _ c.args.self.sound c.requires.1 _ _ c.requires.0
