-- `limits::Profile::new` meets its contract. Assumes nothing.
use Rattle.std.proofs.Common.{sym}
use Rattle.fit.proofs.Laws.Refusals.{profile_few}
use Rattle.limits.proofs.profile.Profile.new.Goals as goal

pub held_points-requires : goal.held_points-requires
held_points-requires c = profile_few _ (sym c.in_ok-of_profile.ensures)

pub invariant_of-result : goal.invariant_of-result
invariant_of-result c = record { few = profile_few _ (sym c.in_ok-of_profile.ensures) }
