-- `counters::Masks::step_words` meets its contract: the words below j are turned, and what left word j - 1 enters word j.
use Rattle.std.proofs.Common.{arith}
use Rattle.counters.proofs.Laws.Handing.{handed_start, handed_more, handed_end}
use Rattle.counters.proofs.Masks.step_words.Goals as goal

pub loop-j-init : goal.loop-j-init
loop-j-init c = handed_start c.args.self c.args.self.sound _ _

pub loop-j-preserved : goal.loop-j-preserved
loop-j-preserved c = handed_more c.args.self c.args.self.sound _ _ _ _ _ _ c.loop-j.invariant (omega arith) c.requires.0 c.step.ensures

pub returns : goal.returns
returns c = handed_end c.args.self c.args.self.sound _ _ _ _ _ c.requires.1 c.loop-j.invariant c.loop-j-test.false
