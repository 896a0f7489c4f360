-- `adding::Additions::at_point` meets its contract: its two ways are the two laws of what a reading adds.
use Rattle.std.proofs.Common.{sym, ◌∙◌}
use Rattle.adding.proofs.Laws.Costing.{added_near, added_far}
use Rattle.adding.proofs.Additions.at_point.Goals as goal

pub returns-then-is_near : goal.returns-then-is_near
returns-then-is_near c = c.from.ensures ∙ c.differ.ensures.0 ∙ sym (added_near _ _ _ _ (sym c.is_near.ensures ∙ c.if-is_near.true))

pub returns-else-is_near : goal.returns-else-is_near
returns-else-is_near c = sym (added_far _ _ _ _ (sym c.is_near.ensures ∙ c.if-is_near.false))
