-- `probe::sieve_at` meets its contract: a step outwards. Assumes nothing.
use native.Mathlib.Omega.{arith}
use Rattle.marks.proofs.Laws.Marking.{table_word}
use Rattle.probe.proofs.Laws.Arounds.{step_marks}
use Rattle.probe.proofs.sieve_at.Goals as goal

pub returns : goal.returns
returns c =
    let given = c.args in record {
      by_index = λ fit table marked.
          step_marks fit given.near.now.m given.recording.now given.q given.k given.mask _ _ _ (omega arith) (omega arith) marked
          (table_word given.near.now.m fit given.near.now.masks _ _ table c.mask_at-before.ensures)
          (table_word given.near.now.m fit given.near.now.masks _ _ table c.mask_at-after.ensures)
          c.sieve.ensures;
      upper_bound = c.sieve.ensures.0;
    }
