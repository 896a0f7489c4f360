-- `score::begun_all` meets its contract: one window after the other, by its mark. Assumes nothing.
use mathlib.Core.Bool.{cond}
use lib.ListN.{get_or}
use lib.Dec.{eqb}
use Rattle.fit.proofs.Laws.Entries.{Rewritten}
use Rattle.spans.specs.Score.{most_score}
use Rattle.score.proofs.begun_all.Given as goal

abbrev pub invariant-loop-j : goal.invariant-loop-j
invariant-loop-j l = Rewritten (λ k. 0) (λ k. cond (eqb (get_or l.marks k 0) 0) most_score 0) 64 l.scores l.j
