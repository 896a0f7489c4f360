-- `window::trying::try_fitting` meets its contract: all readings suit, so the sum decides. Assumes nothing.
use mathlib.Core.Path.{refl, sym}
use Rattle.fit.proofs.Laws.Answers.{tried_one, order_one}
use Rattle.spans.proofs.Laws.Scores.{score_near, score_tried}
use Rattle.window.proofs.trying.try_fitting.Goals as goal

pub returns-clause-tried : goal.returns-clause-tried
returns-clause-tried c =
    λ fits. score_tried _ _ _ _ _ _ c.requires.inside.0 c.requires.inside.1 (score_near _ _ _ _ _ _ (sym fits) _ refl c.fitting_score-score.ensures) c.note_score.ensures.noted

pub returns-clause-total_le_tried : goal.returns-clause-total_le_tried
returns-clause-total_le_tried c = rw c.note_score.ensures.noted.counts (λ order. order_one _ _ _ order, tried_one _ _ _)
