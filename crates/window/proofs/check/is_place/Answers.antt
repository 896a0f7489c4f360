-- `window::check::is_place` meets its contract: a window is a place where its score is at most gamma. Assumes nothing.
use mathlib.Core.Path.{ap, ◌∙◌}
use Prim.Native.Nat.{ℕ}
use lib.Dec.{leb}
use Rattle.spans.proofs.Laws.Scores.{score_place}
use Rattle.window.proofs.check.is_place.Goals as goal

pub returns : goal.returns
returns c =
    ap (λ (k : ℕ). leb k c.args.gamma) (c.from.ensures ∙ c.score_at.ensures c.args.gamma) ∙ score_place _ _ _ _ _ c.requires.0 c.requires.1
