-- `last_of` meets its contract: 0 where the reading is near the last point, and else the jump that it is handed. Assumes nothing.
use mathlib.Core.Path.{sym, ◌∙◌}
use native.Mathlib.Omega.{arith}
use Rattle.fit.specs.Spans.{rule_in}
use Rattle.jumps.proofs.Laws.Sizes.{zero_last_jump, seen_where_far}
use Rattle.tables.proofs.single.last_of.Goals as goal

pub returns-then-suits : goal.returns-then-suits
returns-then-suits c =
    let a = c.args in
    sym (zero_last_jump (rule_in a.spans.now.rows).fit _ a.a (omega arith) (sym c.suits.ensures ∙ c.if-suits.true))

pub returns : goal.returns
returns c = c.requires.0 ∙ seen_where_far _ _ _ (omega arith) (sym c.suits.ensures ∙ c.if-suits.false)
