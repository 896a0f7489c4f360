-- "An empty recording, or n < m, is accepted and has 0 places." Assumes nothing.
use mathlib.Core.Path.{◌≡◌, ap}
use mathlib.Core.List.{List, []}
use Prim.Native.Nat.{ℕ, ◌<◌}
use native.Mathlib.Omega.{arith}
use lib.ListN.{length}
use Rattle.fit.specs.Place.{is_place, windows}
use Rattle.fit.specs.Listing.{up_to, places}
use Rattle.fit.specs.Refusal.{search_refusal, Asked}
use Rattle.fit.proofs.Laws.Refusals.{none_exactly}

module _ (delta gamma : ℕ) (x y : List ℕ) where
  -- a recording that is shorter than the profile has no window, and so no place
  pub no_windows : length y < length x → windows (length x) (length y) ≡ 0
  no_windows h = omega arith

  pub no_places : length y < length x → places delta gamma x y ≡ []
  unfolding places up_to
  no_places h = ap (up_to (is_place delta gamma x y)) (no_windows h)

  -- and it is not refused, whose profile is not
  pub short_accepted : Asked delta gamma x → length y < length x → search_refusal delta gamma x y ≡ 0
  short_accepted ok h = (none_exactly delta gamma x y).1 (record { asked = ok; short = omega (arith, ok.few) })

-- an empty recording is shorter than every profile of a point or more
pub empty_short : (delta gamma : ℕ) (x : List ℕ) → Asked delta gamma x → length {A = ℕ} [] < length x
empty_short delta gamma x ok = omega (arith, ok.some)
