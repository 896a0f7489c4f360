-- `skip::point_by_point` meets its contract: it goes along the walk, probe by probe. Assumes nothing.
use native.Mathlib.Omega.{arith}
use Rattle.std.proofs.Common.{rules}
use Rattle.fit.proofs.Laws.Alongs.{along_start, along_same}
use Rattle.skip.proofs.Laws.Walks.{walk_start, along_probe}
use Rattle.skip.proofs.Laws.Searching.{walk_answer}
use Rattle.noting.proofs.Laws.Handing.{same_still, same_on}
use Rattle.skip.proofs.point_by_point.Goals as goal

pub loop-at-init : goal.loop-at-init
loop-at-init c = (omega arith, along_same (walk_start _ _ _ (omega arith)) (along_start _ _ _ _ (search rules)), same_still _)

pub loop-at-preserved : goal.loop-at-preserved
loop-at-preserved c =
    let inv = c.loop-at.invariant in
    (omega arith, along_probe _ _ _ _ _ c.requires.some inv.0 (omega arith) inv.1 c.try_probed-found.ensures.tried, same_on inv.2 c.try_probed-found.ensures.same)

pub returns-clause-answer : goal.returns-clause-answer
returns-clause-answer c = let inv = c.loop-at.invariant in walk_answer _ _ _ _ _ c.requires.some (omega arith) inv.1

pub returns-2-clause-answer : goal.returns-2-clause-answer
returns-2-clause-answer c =
    let inv = c.loop-at.invariant in
    walk_answer _ _ _ _ _ c.requires.some (omega arith) (along_probe _ _ _ _ _ c.requires.some inv.0 (omega arith) inv.1 c.try_probed-found.ensures.tried)
