-- `sieve::sift` meets its contract: each window keeps its mark where it suits the three points. Assumes nothing.
use Prim.Native.Nat.{◌+◌}
use Rattle.fit.specs.Spans.{rule_in}
use Rattle.sieve.specs.Sieve.{passes}
use Rattle.sieve.proofs.Laws.Passes.{Sifting}
use Rattle.sieve.proofs.sift.Given as goal

abbrev pub invariant-loop-j : goal.invariant-loop-j
invariant-loop-j l =
    Sifting (λ k. passes (rule_in l.spans.rows).fit l.spans.m l.recording (l.s + k) l.i) (λ k. passes (rule_in l.spans.rows).fit l.spans.m l.recording (l.s + k) (l.i + 1)) l.marks l.most l.j
