-- "The window check must now answer: fits, with its sum; or the first point, in point order, that isn't near; or, if all are near, the sum that
-- exceeds g" (document 02, #106). Assumes nothing.
use Rattle.std.specs.Prelude.{ℕ, zero, suc, ◌+◌, ◌-◌, ◌≤◌, ◌<◌, Bool, true, false, cond, List, ◌≡◌, length, leb}
use Rattle.fit.specs.Rule.{Rule, reading_at, sum_cost}
use Rattle.fit.specs.Place.{rule_of, d_of, g_of}
use Rattle.fit.specs.Refusal.{or_else}
use Rattle.fit.specs.declared.verdict.Verdict.{Verdict}
use Rattle.fit.specs.declared.verdict.Verdict.TheVariants.{Fits, Far, Over}

-- an answer in numbers alone: which of the cases it is, and its values
pub record Told : Type 0 where
  pub kind : ℕ
  pub point : ℕ
  pub sum : ℕ

abbrev pub far_at : ℕ → Told
far_at p = record { kind = 0; point = p; sum = 0 }

abbrev pub fits_with : ℕ → Told
fits_with sum = record { kind = 1; point = 0; sum = sum }

abbrev pub over_with : ℕ → Told
over_with sum = record { kind = 2; point = 0; sum = sum }

-- each case by its number and its values. No paper numbers them: 1 is a place, as in `first`; 2 a sum above g; 0 a far point, whose own number is from
-- 1 on, so that the zeros beside a refusal's number are no window's verdict
unfoldable pub told_of : Verdict → Told
told_of (Fits sum) = fits_with sum
told_of (Far p) = far_at p
told_of (Over sum) = over_with sum

-- of the first k points, document 01's number of the first whose reading in the window at s does not suit it; 0 where all suit
unfoldable pub broken_at : (ℕ → ℕ → Bool) → List ℕ → ℕ → ℕ → ℕ
broken_at fit y s zero = 0
broken_at fit y s (suc k) = or_else (broken_at fit y s k) (cond (fit k (reading_at y s k)) 0 (suc k))

-- the same as a fact: the point is far, and those before it are near
pub record BreaksAt (fit : ℕ → ℕ → Bool) (y : List ℕ) (s m p : ℕ) : Type 0 where
  pub from_one : 1 ≤ p
  pub to_last : p ≤ m
  pub far : fit (p - 1) (reading_at y s (p - 1)) ≡ false
  pub before : (i : ℕ) → i + 1 < p → fit i (reading_at y s i) ≡ true

-- what is answered, by the number of the first far point, 0 for none, and the sum
unfoldable pub judged : ℕ → ℕ → ℕ → Told
judged zero sum g = cond (leb sum g) (fits_with sum) (over_with sum)
judged (suc p) sum g = far_at (suc p)

-- the answer for the window at s under a rule of m points
unfoldable pub verdict_by : Rule → ℕ → ℕ → List ℕ → ℕ → Told
verdict_by r m g y s = judged (broken_at r.fit y s m) (sum_cost r.cost y s m) g

-- and for an ordinary profile, by d and g
abbrev pub verdict_of : ℕ → ℕ → List ℕ → List ℕ → ℕ → Told
verdict_of delta gamma x y s = verdict_by (rule_of (d_of delta gamma) x) (length x) (g_of (length x) delta gamma) y s
