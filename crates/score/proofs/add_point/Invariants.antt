-- `score::add_point` meets its contract: the windows before j have point i in their scores. Assumes nothing.
use Prim.Native.Nat.{◌+◌}
use Rattle.fit.specs.Spans.{rule_in}
use Rattle.fit.proofs.Laws.Entries.{Rewritten}
use Rattle.score.specs.Score.{score_after}
use Rattle.score.proofs.add_point.Given as goal

abbrev pub invariant-loop-j : goal.invariant-loop-j
invariant-loop-j l =
    Rewritten (λ k. score_after (rule_in l.spans.rows) l.spans.m l.recording l.i (l.s + k)) (λ k. score_after (rule_in l.spans.rows) l.spans.m l.recording (l.i + 1) (l.s + k)) 64 l.scores l.j
