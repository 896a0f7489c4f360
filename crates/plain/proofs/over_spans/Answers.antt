-- `plain::over_spans` meets its contract: it tries every window, by blocks, and then one by one. Assumes nothing.
use mathlib.Core.Path.{◌≡◌}
use Prim.Native.Nat.{◌/◌}
use native.Mathlib.Omega.{arith}
use Rattle.std.proofs.Common.{rules}
use Rattle.fit.proofs.Laws.Rules.{by_below}
use Rattle.fit.proofs.Laws.Runs.{running_all, every_tried}
use Rattle.noting.proofs.Laws.Handing.{same_on}
use Rattle.plain.proofs.over_spans.Goals as goal

pub loop-b-preserved : goal.loop-b-preserved
loop-b-preserved c =
    (running_all _ _ _ c.loop-b.invariant.0 _ _ (omega arith) (omega arith) c.try_block-found.ensures.tried, same_on c.loop-b.invariant.1 c.try_block-found.ensures.same)

pub returns-clause-answer : goal.returns-clause-answer
returns-clause-answer c =
    let all : c.loop-b.b ≡ c.count_windows-count.result / 64 = omega arith in
    let inv = rw all at c.loop-b.invariant.0 in
    every_tried _ (λ s p. by_below _ _ _ _ s p) (search rules) (inv.rest _ _ c.one_by_one.ensures.tried)
