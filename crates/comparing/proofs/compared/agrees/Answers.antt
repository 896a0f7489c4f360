-- `agrees` meets its contract: where k goes beyond q nothing is compared. Assumes nothing.
use mathlib.Core.Path.{sym, ◌∙◌}
use native.Mathlib.Omega.{arith}
use borrow.Author.Tests.{lt-ltb}
use Rattle.jumps.proofs.Laws.Conditions.{is_agreed, agrees_within}
use Rattle.comparing.proofs.compared.agrees.Goals as goal

pub returns-then-q-k : goal.returns-then-q-k
returns-then-q-k c = lt-ltb _ _ c.if-q-k.true ∙ sym (is_agreed _ _ _ _ (λ h. absurd (omega arith)))

pub returns-else-q-k : goal.returns-else-q-k
returns-else-q-k c = c.are_alike.ensures ∙ sym (agrees_within _ _ _ _ (omega arith))
