-- `limits::held_points` meets its contract: the points are laid over zeros. Assumes nothing.
use Rattle.std.proofs.Common.{ℕ, sym, ap, ◌∙◌, arith, List, length, ◌++◌, drop, replicate}
use Rattle.limits.proofs.Laws.Constructed.{overlay_front}
use Rattle.limits.proofs.profile.held_points.Goals as goal
use lib.ListN.{length-replicate}

pub returns : goal.returns
returns c =
    ap (λ (l : List ℕ). l ++ drop (length c.args.points.now) (replicate 64 0)) c.copy_from_slice.ensures.after
    ∙ sym (overlay_front c.args.points.now (replicate 64 0) (omega (arith, c.requires, length-replicate {A = ℕ} 64 0)))
