-- `input::Input::read` meets its contract: each return says which part of the rule applied. Assumes nothing.
use mathlib.Core.Logic.{inl, inr}
use mathlib.Core.Path.{◌∙◌}
use native.Mathlib.Omega.{arith}
use Rattle.input.proofs.Laws.Parses.{refused_parse, accepted_parse, short_rest}
use Rattle.input.proofs.Input.read.Goals as goal

pub returns-then-bytes-gt-MAX_INPUT : goal.returns-then-bytes-gt-MAX_INPUT
returns-then-bytes-gt-MAX_INPUT c = refused_parse _ (inr (inr (omega arith)))

pub returns-in_default : goal.returns-in_default
returns-in_default c = refused_parse _ (inl (omega arith))

pub returns-in_err-points : goal.returns-in_err-points
returns-in_err-points c = rw c.from_residual.ensures (refused_parse _ (inr (inl (short_rest _ (omega arith) (rw c.from.ensures at c.in_err-points.ensures.cases)))))

pub returns : goal.returns
returns c =
    accepted_parse _ c.in-len4-up.len_at_least (omega arith) _ (rw c.from.ensures at c.in_ok-points.ensures.cases) c.from-2.ensures (c.from-3.ensures ∙ c.from_be_bytes.ensures)
