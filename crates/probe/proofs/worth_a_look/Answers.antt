-- `probe::worth_a_look` meets its contract: the probe's own word, and one step where there are other points. Assumes nothing.
use mathlib.Core.Path.{◌≡◌}
use native.Mathlib.Omega.{arith}
use Rattle.marks.proofs.Laws.Marking.{table_word}
use Rattle.probe.proofs.Laws.Arounds.{here_marks, alone_marks}
use Rattle.probe.proofs.worth_a_look.Goals as goal

pub returns-then-near-eq1 : goal.returns-then-near-eq1
returns-then-near-eq1 c = let given = c.args in
    let one : given.near.now.m ≡ 1 = omega arith in
    λ fit table.
    alone_marks fit given.near.now.m given.recording.now given.q _ one
    (here_marks fit given.near.now.m given.recording.now given.q _ (table_word given.near.now.m fit given.near.now.masks _ _ table c.mask_at-here.ensures))

pub returns : goal.returns
returns c = let given = c.args in
    λ fit table.
    c.sieve_at.ensures.by_index fit table
    (here_marks fit given.near.now.m given.recording.now given.q _ (table_word given.near.now.m fit given.near.now.masks _ _ table c.mask_at-here.ensures))
