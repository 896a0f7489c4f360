-- `Points::full_jump` meets its contract: each k is tried by its condition. Assumes nothing.
use mathlib.Core.Path.{sym, ◌∙◌}
use native.Mathlib.Omega.{arith}
use borrow.Author.Rules.{rules}
use Rattle.jumps.proofs.Laws.Conditions.{full_start}
use Rattle.tables.proofs.points.Points.full_jump.Goals as goal

pub returns : goal.returns
returns c = c.least.ensures.same _ (λ k b l p. search rules) ∙ sym (full_start _ _ (omega arith)).same
