-- `lone_jump` meets its contract: each k is tried by the lone condition. Assumes nothing.
use mathlib.Core.Path.{sym, ◌∙◌}
use native.Mathlib.Omega.{arith}
use borrow.Author.Rules.{rules}
use Rattle.jumps.proofs.Laws.Conditions.{lone_start}
use Rattle.comparing.proofs.lone.lone_jump.Goals as goal

pub returns : goal.returns
returns c = (c.least.ensures.same _ (λ k b l p. search rules) ∙ sym (lone_start _ _ _).same, omega arith)
