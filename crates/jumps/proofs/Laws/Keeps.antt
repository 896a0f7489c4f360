-- For the searchers: at a place t of a given recording, no jump from a window before it goes beyond it. Assumes nothing.
use Prim.Native.Nat.{ℕ, ◌+◌, ◌-◌, ◌≤◌, ◌<◌}
use mathlib.Core.Path.{◌≡◌, ap, ◌∙◌}
use mathlib.Core.Bool.{true, false}
use mathlib.Core.List.{List}
use native.Mathlib.Omega.{arith}
use lib.ListN.{length, get_or}
use Rattle.fit.specs.Reading.{near}
use Rattle.fit.specs.Rule.{Rule, reading_at, is_place_by, near_by}
use Rattle.fit.specs.Place.{Place, d_of}
use Rattle.fit.specs.Refusal.{Asked}
use Rattle.fit.proofs.Laws.Bools.{and_left}
use Rattle.jumps.specs.Jumps.{last_jump, next_jump, seen_jump, earlier, mismatch_jump, full_jump}
use Rattle.jumps.specs.Demand.{Readings, LastIs, NextIs, Mismatch, AllNear}
use Rattle.jumps.proofs.Laws.Frame.{not_beyond}
use Rattle.jumps.proofs.Laws.OneReading.{last_by_passes, next_by_passes, seen_by_passes}
use Rattle.jumps.proofs.Laws.Demands.{mismatch_not_too_long, full_not_too_long}

-- a recording of bytes is one of readings
pub readings_of : (y : List ℕ) → ((i : ℕ) → get_or y i 0 < 256) → Readings y
readings_of y h i = omega (arith, h i)

-- the evidence, from what a searcher sees at the window at s
module _ (y : List ℕ) (s m : ℕ) where
  pub last_is : 1 ≤ m → s + m ≤ length y → LastIs m (reading_at y s (m - 1)) y s
  last_is some inside = record { inside = inside; each = λ q l e. ap (λ (j : ℕ). get_or y (s + j) 0) e }

  pub next_is : s + m < length y → NextIs m (reading_at y s m) y s
  next_is inside = record { inside = omega arith; each = λ q l e. ap (λ (j : ℕ). get_or y (s + j) 0) e }

module _ (d : ℕ) (x y : List ℕ) (s : ℕ) (inside : s + length x ≤ length y) where
  pub mismatch_seen : (p : ℕ) → ((q : ℕ) → q < length x → earlier d x q p ≡ true → near d (get_or x q 0) (reading_at y s q) ≡ true)
      → near d (get_or x p 0) (reading_at y s p) ≡ false → Mismatch d x p y s
  mismatch_seen p before far = record {
    inside = inside;
    each = λ q l. record { earlier_near = before q l; itself_far = λ e. ap (λ (j : ℕ). near d (get_or x j 0) (reading_at y s j)) e ∙ far };
  }

  pub all_near : ((q : ℕ) → q < length x → near d (get_or x q 0) (reading_at y s q) ≡ true) → AllNear d x y s
  all_near f = record { inside = inside; each = f }

-- under any rule, by the readings that suit its points
module _ (r : Rule) (m gamma : ℕ) (some : 1 ≤ m) (y : List ℕ) (s t : ℕ) (place : is_place_by r m gamma y t ≡ true) where
  suits : (i c : ℕ) → near_by r gamma i c ≡ true → r.fit i c ≡ true
  suits i c n = and_left (r.fit i c) _ n

  pub last_keeps : s + m ≤ length y → s ≤ t → s + last_jump r.fit m (reading_at y s (m - 1)) ≤ t
  last_keeps inside h =
      not_beyond 0 _ s t (λ p. last_by_passes r m gamma some (reading_at y s (m - 1)) r.fit suits y s t (last_is y s m some inside) p place) (omega arith)

  pub next_keeps : s + m < length y → s < t → s + next_jump r.fit m (reading_at y s m) ≤ t
  next_keeps inside h =
      not_beyond 1 _ s t (λ p. next_by_passes r m gamma some (reading_at y s m) r.fit suits y s t (next_is y s m inside) p place) (omega arith)

  pub seen_keeps : s + m ≤ length y → s < t → s + seen_jump r.fit m (reading_at y s (m - 1)) ≤ t
  seen_keeps inside h =
      not_beyond 1 _ s t (λ p. seen_by_passes r m gamma some (reading_at y s (m - 1)) r.fit suits y s t (last_is y s m some inside) p place) (omega arith)

-- for ordinary profiles
module _ (delta gamma : ℕ) (x y : List ℕ) (asked : Asked delta gamma x) (s t : ℕ) (place : Place delta gamma x y t) (later : s < t) where
  pub full_keeps : Readings y → AllNear (d_of delta gamma) x y s → s + full_jump (d_of delta gamma) x ≤ t
  full_keeps rd e = not_beyond 1 _ s t (λ p. full_not_too_long delta gamma x asked y s t rd e p place) (omega arith)

  pub mismatch_keeps : Readings y → (p : ℕ) → p < length x → Mismatch (d_of delta gamma) x p y s → s + mismatch_jump (d_of delta gamma) x p ≤ t
  mismatch_keeps rd p l e = not_beyond 1 _ s t (λ h. mismatch_not_too_long delta gamma x asked p l y s t rd e h place) (omega arith)
