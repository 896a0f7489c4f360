-- `marks::near_masks` meets its contract: the first i points are marked for the readings that suit them. Assumes nothing.
use Rattle.fit.specs.Spans.{rule_in}
use Rattle.marks.proofs.Laws.Marking.{table_none, table_more}
use Rattle.marks.proofs.near_masks.Goals as goal

pub loop-i-init : goal.loop-i-init
loop-i-init c = table_none _

pub loop-i-preserved : goal.loop-i-preserved
loop-i-preserved c = table_more (rule_in c.args.spans.now.rows).fit c.loop-i.i c.loop-i.masks _ c.loop-i.invariant c.mark_span.ensures
