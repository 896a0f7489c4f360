-- `window::trying::note_score` meets its contract: noted with the score as its sum, or as none. Assumes nothing.
use Rattle.std.proofs.Common.{ℕ, ◌≡◌, ◌∙◌, ap, leb}
use Rattle.std.specs.Bool.{then_some}
use Rattle.fit.proofs.Laws.Answers.{noted_if}
use Rattle.window.proofs.trying.note_score.Goals as goal

pub returns-clause-noted : goal.returns-clause-noted
returns-clause-noted c =
    let given = c.args in
    let told : c.then_some-sum.result ≡ then_some (leb given.score given.gamma) given.score =
    c.then_some-sum.ensures ∙ ap (λ (k : ℕ). then_some (leb k given.gamma) given.score) c.from.ensures in
    noted_if _ _ _ _ _ (rw told at c.note.ensures.noted)
