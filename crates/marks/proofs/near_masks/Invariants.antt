-- `marks::near_masks` meets its contract: the first i points are marked for the readings that suit them. Assumes nothing.
use Rattle.fit.specs.Spans.{rule_in}
use Rattle.marks.specs.Marks.{MarkTable}
use Rattle.marks.proofs.near_masks.Given as goal

abbrev pub invariant-loop-i : goal.invariant-loop-i
invariant-loop-i l = MarkTable l.i (rule_in l.spans.rows).fit l.masks
