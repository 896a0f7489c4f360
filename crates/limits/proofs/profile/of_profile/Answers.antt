-- `limits::of_profile` meets its contract: each return says which reason applied. Assumes nothing.
use Rattle.std.proofs.Common.{sym, arith, ◌∙◌}
use Rattle.std.proofs.lemmas.Grind.{common_steps}
use Rattle.fit.specs.Refused.{number_of}
use Rattle.fit.proofs.Laws.Refusals.{profile_empty, profile_long, profile_zero, profile_good}
use Rattle.limits.proofs.Laws.Constructed.{any_zero}
use Rattle.limits.proofs.profile.of_profile.Goals as goal

pub returns-then-is_empty : goal.returns-then-is_empty
unfolding number_of
returns-then-is_empty c = sym (profile_empty _ (grind (arith, common_steps)))

pub returns-then-points-gt-MAX_POINTS : goal.returns-then-points-gt-MAX_POINTS
unfolding number_of
returns-then-points-gt-MAX_POINTS c = sym (profile_long _ c.if-points-gt-MAX_POINTS.true)

pub returns-then-contains : goal.returns-then-contains
unfolding number_of
returns-then-contains c =
    sym (profile_zero _ (omega arith) (sym (c.contains.ensures.value ∙ any_zero c.args.points.now) ∙ c.if-contains.true))

pub returns : goal.returns
returns c =
    sym (profile_good _ (grind (arith, common_steps)) (omega arith) (sym (c.contains.ensures.value ∙ any_zero c.args.points.now) ∙ c.if-contains.false))
