-- `counters::Masks::step_words` meets its contract: the words below j are turned, and what left word j - 1 enters word j.
use Rattle.counters.proofs.Laws.Handing.{Handed}
use Rattle.counters.proofs.Masks.step_words.Given as goal

abbrev pub invariant-loop-j : goal.invariant-loop-j
invariant-loop-j l = Handed l.self l.initial.words l.adds l.words l.enters l.j
