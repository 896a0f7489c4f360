-- `lines::put_places` meets its contract: each place's line stands behind those before it. Assumes nothing.
use native.Mathlib.Omega.{arith}
use Rattle.lines.proofs.Laws.Texts.{no_line, one_more_line}
use Rattle.lines.proofs.put_places.Goals as goal

pub loop-place-init : goal.loop-place-init
loop-place-init c = no_line _

pub loop-place-preserved : goal.loop-place-preserved
loop-place-preserved c = one_more_line _ _ _ (omega arith) (c.from.ensures) c.loop-place.invariant c.put_ended.ensures
