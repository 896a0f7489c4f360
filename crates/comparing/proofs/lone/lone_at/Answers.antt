-- `lone_at` meets its contract: where k goes beyond p nothing is compared. Assumes nothing.
use mathlib.Core.Path.{sym, ◌∙◌}
use native.Mathlib.Omega.{arith}
use borrow.Author.Tests.{lt-ltb}
use Rattle.jumps.proofs.Laws.Conditions.{is_lone, lone_within}
use Rattle.comparing.proofs.lone.lone_at.Goals as goal

pub returns-then-p-k : goal.returns-then-p-k
returns-then-p-k c = lt-ltb _ _ c.if-p-k.true ∙ sym (is_lone _ _ _ _ (λ h. absurd (omega arith)))

pub returns-else-p-k : goal.returns-else-p-k
returns-else-p-k c = c.is_lonely.ensures ∙ sym (lone_within _ _ _ _ (omega arith))
