-- `spans::score_at` meets its contract. Assumes nothing.
use Rattle.spans.proofs.Laws.Scores.{score_near, score_far}
use Rattle.spans.proofs.Spans.score_at.Goals as goal

pub returns-then-all_suit : goal.returns-then-all_suit
returns-then-all_suit c = λ gamma. score_near _ _ gamma _ _ _ c.all_suit.ensures _ c.if-all_suit.true c.fitting_score.ensures

pub returns : goal.returns
returns c = λ gamma. score_far _ _ gamma _ _ _ c.all_suit.ensures c.if-all_suit.false
