-- E4 of document 01: maximal tries 5 windows. A recording of one window, and one that has lost contact. Assumes nothing.
use mathlib.Core.Path.{◌≡◌, refl}
use mathlib.Core.List.{[], ◌∷◌}
use Rattle.fit.specs.Reading.{near, alike}
use Rattle.fit.specs.Place.{d_of}
use Rattle.fit.specs.Walk.{walk_by, walk}
use Rattle.jumps.specs.Least.{greatest, least, all_below, some_below}
use Rattle.jumps.specs.Jumps.{lonely, lone_at, lone_jump, earlier, agrees_at, mismatch_at, mismatch_jump, full_at, full_jump}
use Rattle.comparing.specs.Order.{with_lone, falling}
use Rattle.leaping.specs.Walk.{compared_jump, maximal_next, maximal_walk}

pub E4-walk : maximal_walk (d_of 1 2) (40 ∷ 42 ∷ 44 ∷ []) (40 ∷ 42 ∷ 44 ∷ 41 ∷ 43 ∷ 45 ∷ 39 ∷ 42 ∷ 43 ∷ 70 ∷ 41 ∷ 41 ∷ 43 ∷ 40 ∷ [])
    ≡ 0 ∷ 2 ∷ 3 ∷ 6 ∷ 10 ∷ []
unfolding walk walk_by maximal_next compared_jump with_lone falling greatest least all_below some_below lonely lone_at lone_jump earlier agrees_at mismatch_at mismatch_jump full_at full_jump near alike
E4-walk = refl

pub one_window : maximal_walk 0 (7 ∷ []) (7 ∷ []) ≡ 0 ∷ []
unfolding walk walk_by maximal_next compared_jump with_lone falling greatest least all_below some_below lonely lone_at lone_jump earlier agrees_at mismatch_at mismatch_jump full_at full_jump near alike
one_window = refl

-- a 0 is a mismatch with point 2, though it differs by no more than d: its jump is 2, where the full jump would be 1
pub zero_mismatch : maximal_walk 2 (1 ∷ 2 ∷ []) (1 ∷ 0 ∷ 1 ∷ 1 ∷ []) ≡ 0 ∷ 2 ∷ []
unfolding walk walk_by maximal_next compared_jump with_lone falling greatest least all_below some_below lonely lone_at lone_jump earlier agrees_at mismatch_at mismatch_jump full_at full_jump near alike
zero_mismatch = refl
