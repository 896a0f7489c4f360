-- `counters::alike` meets its contract: after so many turns so many counters are laid, each at v.
use Rattle.counters.specs.Word.{Laid}
use Rattle.counters.proofs.alike.Given as goal

abbrev pub invariant-loop : goal.invariant-loop
invariant-loop l = Laid l.l l.counter l.w (λ _. l.v)
