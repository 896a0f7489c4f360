-- Laws of what a reading adds. Nobody else opens `added`. Assumes nothing.
use mathlib.Core.Path.{◌≡◌}
use mathlib.Core.Bool.{true, false}
use mathlib.Core.Logic.{⊎_elim}
use Prim.Native.Nat.{ℕ, ◌+◌, ◌≤◌}
use native.Mathlib.Omega.{arith}
use Rattle.fit.specs.Reading.{diff, near}
use Rattle.fit.proofs.Laws.Bools.{either}
use Rattle.fit.proofs.Laws.Readings.{near_le, zero_far}
use Rattle.adding.specs.Costs.{added}

module _ (d g p a : ℕ) where
  pub added_near : near d p a ≡ true → added d g p a ≡ diff p a
  unfolding added
  added_near e = rw e

  pub added_far : near d p a ≡ false → added d g p a ≡ g + 1
  unfolding added
  added_far e = rw e

  -- a reading of 0 adds g + 1 at every point
  pub added_zero : a ≡ 0 → added d g p a ≡ g + 1
  added_zero e = added_far (rw e (zero_far d p))

  -- an addition of at most g is that of a reading that is near
  pub added_fits : added d g p a ≤ g → near d p a ≡ true
  added_fits h = ⊎_elim (λ e. e) (λ e. absurd (omega (arith, added_far e))) (either (near d p a))

  -- a near reading differs by at most d, so no addition is above g + 1
  pub added_le : d ≤ g → added d g p a ≤ g + 1
  added_le h =
      ⊎_elim (λ (e : near d p a ≡ true). omega (arith, added_near e, near_le d p a e)) (λ (e : near d p a ≡ false). omega (arith, added_far e))
      (either (near d p a))
