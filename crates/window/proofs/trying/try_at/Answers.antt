-- `window::trying::try_at` meets its contract: a window that falls at its first point is none, and the score says the rest. Assumes nothing.
use mathlib.Core.Path.{sym, ◌∙◌}
use Rattle.fit.proofs.Laws.Answers.{noted_miss}
use Rattle.fit.proofs.Laws.Rules.{by_first}
use Rattle.spans.proofs.Laws.Scores.{score_tried}
use Rattle.window.proofs.trying.try_at.Goals as goal

pub returns-then-suits-clause-tried : goal.returns-then-suits-clause-tried
returns-then-suits-clause-tried c =
    score_tried _ _ _ _ _ _ c.requires.le_m.1 c.requires.le_m.2 (c.score_at-score.ensures _) c.note_score.ensures.noted

pub returns-clause-tried : goal.returns-clause-tried
returns-clause-tried c =
    rw c.note_none.ensures (noted_miss _ _ _ _ _ (by_first _ _ _ _ _ c.requires.le_m.0 (sym c.suits.ensures ∙ c.if-suits.false)))
