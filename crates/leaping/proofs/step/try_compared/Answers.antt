-- `try_compared` meets its contract: a window with a point that is not near is no place, and any other has its sum asked. Assumes nothing.
use Rattle.fit.proofs.Laws.Answers.{noted_miss}
use Rattle.leaping.proofs.step.try_compared.Goals as goal

pub returns-then-leading-spans-clause-tried : goal.returns-then-leading-spans-clause-tried
returns-then-leading-spans-clause-tried c =
    let given = c.requires in
    rw c.note_none.ensures (noted_miss _ _ _ _ _ (given.s_value.0 c.if-leading-spans.true))
