-- Edges of the walk, by computation: what an edit of a definition is refused by. Assumes nothing.
use mathlib.Core.Path.{◌≡◌, refl}
use mathlib.Core.List.{[], ◌∷◌}
use Rattle.fit.specs.Reading.{near}
use Rattle.fit.specs.Place.{fit_of}
use Rattle.skip.specs.Walk.{probed, probes, skip_walk}

-- both points are near each of the two probes: the higher point first, and no window past the end
pub highest_first : skip_walk (fit_of 0 (5 ∷ 5 ∷ [])) 2 (5 ∷ 5 ∷ 5 ∷ 5 ∷ []) ≡ 0 ∷ 1 ∷ 2 ∷ []
unfolding skip_walk probes probed near
highest_first = refl

-- a probe that is the last reading
pub last_probe : skip_walk (fit_of 0 (7 ∷ [])) 1 (7 ∷ []) ≡ 0 ∷ []
unfolding skip_walk probes probed near
last_probe = refl
