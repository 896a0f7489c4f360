-- What the checked types hold: the tolerances and the points that they were made of. Assumes nothing.
use Rattle.std.specs.Prelude.{ℕ, ◌≡◌, List, length, take, replicate}
use Rattle.fit.specs.Listing.{overlay}
use Rattle.fit.specs.Refusal.{max_points}
use Rattle.limits.specs.declared.tolerance.Tolerance.{Tolerance}
use Rattle.limits.specs.declared.profile.Profile.{Profile}
use Rattle.limits.specs.declared.checked.Checked.{Checked}

-- a tolerance of delta and gamma
pub record OfTolerances (delta gamma : ℕ) (t : Tolerance) : Type 0 where
  pub delta_is : t.delta ≡ delta
  pub gamma_is : t.gamma ≡ gamma

-- a profile of the points x: these first, and zeros after them
pub record OfPoints (x : List ℕ) (p : Profile) : Type 0 where
  pub points_are : p.points ≡ overlay x (replicate max_points 0)
  pub m_is : p.m ≡ length x

-- the points that a profile holds
abbrev pub points_of : Profile → List ℕ
points_of p = take p.m p.points

-- the input of a call, looked at: it has the tolerances and the points that it was asked with
pub record Carries (delta gamma : ℕ) (x : List ℕ) (q : Checked) : Type 0 where
  pub tolerance : OfTolerances delta gamma q.tolerance
  pub profile : OfPoints x q.profile
