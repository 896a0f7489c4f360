-- `of_window` meets its contract: the windows are those below their count. Assumes nothing.
use Rattle.std.proofs.Common.{arith}
use Rattle.fit.specs.Refused.{number_of}
use Rattle.judging.proofs.Laws.Judgings.{window_bad, window_good}
use Rattle.judging.proofs.of_window.Goals as goal

pub returns-then-s-count_windows : goal.returns-then-s-count_windows
returns-then-s-count_windows c = window_good _ _ _ (omega arith)

pub returns-else-s-count_windows : goal.returns-else-s-count_windows
unfolding number_of
returns-else-s-count_windows c = window_bad _ _ _ (omega arith)
