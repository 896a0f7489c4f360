-- How maximal walks. Assumes nothing.
use Rattle.std.specs.Prelude.{ℕ, ◌+◌, max, Bool, true, cond, List, [], ◌∷◌, length, get_or, ltb}
use Rattle.fit.specs.Reading.{near}
use Rattle.fit.specs.Rule.{reading_at}
use Rattle.fit.specs.Place.{fit_of, windows}
use Rattle.fit.specs.Walk.{walk}
use Rattle.jumps.specs.Jumps.{next_jump, mismatch_jump, full_jump}
use Rattle.comparing.specs.Order.{compare_order}

module _ (d : ℕ) (x y : List ℕ) where
  -- point q is near in the window at s
  abbrev pub near_at : ℕ → ℕ → Bool
  near_at s q = near d (get_or x q 0) (reading_at y s q)

  -- "the mismatch jump (the full jump if no point mismatched)": the points of a list are compared in turn, and the first that is not
  -- near gives its jump
  unfoldable pub compared_jump : ℕ → List ℕ → ℕ
  compared_jump s [] = full_jump d x
  compared_jump s (q ∷ l) = cond (near_at s q) (compared_jump s l) (mismatch_jump d x q)

  -- the larger of the next-reading jump and that
  abbrev pub larger_jump : ℕ → ℕ
  larger_jump s = max (next_jump (fit_of d x) (length x) (reading_at y s (length x))) (compared_jump s (compare_order d x))

  -- where the walk goes on: "After the last window it ends", and so there is no reading after it to look at
  unfoldable pub maximal_next : ℕ → ℕ
  maximal_next s = s + cond (ltb (s + length x) (length y)) (larger_jump s) 1

  -- "maximal tries the window, then takes the larger of" the two jumps
  abbrev pub maximal_walk : List ℕ
  maximal_walk = walk (λ s. true) maximal_next (windows (length x) (length y))
