-- Demand 3 as a whole, for each rule: a number has both halves exactly where it is the rule's jump. And the larger of two jumps, for the two pairs
-- that a walk takes it of. Assumes nothing.
use Prim.Native.Nat.{ℕ, ◌*◌, ◌≤◌, ◌<◌, max}
use mathlib.Core.Path.{◌≡◌, sym, subst}
use mathlib.Core.Logic.{◌↔◌}
use mathlib.Core.List.{List}
use native.Mathlib.Omega.{arith}
use lib.ListN.{length}
use Rattle.fit.specs.Reading.{highest}
use Rattle.fit.specs.Rule.{Rule, near_by}
use Rattle.fit.specs.Place.{fit_of, Place, d_of}
use Rattle.fit.specs.Refusal.{max_points, Asked}
use Rattle.jumps.specs.Jumps.{last_jump, next_jump, seen_jump, after_jump, mismatch_jump, full_jump}
use Rattle.jumps.specs.Demand.{Readings, NotTooLong, Halves, LastIs, NextIs, LastNear, Mismatch, AllNear}
use Rattle.jumps.proofs.Laws.Frame.{Home, PlaceBy, no_second_jump, larger_not_too_long}
use Rattle.jumps.proofs.Laws.OneReading.{seen_by_not_too_long, seen_by_reaches}
use Rattle.jumps.proofs.Laws.Demands.{last_reading_not_too_long, next_reading_not_too_long, seen_reading_not_too_long, after_check_not_too_long, mismatch_not_too_long, full_not_too_long, last_reading_reaches, next_reading_reaches, seen_reading_reaches, after_check_reaches, mismatch_reaches, full_reaches}
use Rattle.jumps.proofs.Laws.Sizes.{next_jump_ge, seen_jump_ge, after_jump_ge, mismatch_jump_ge, full_jump_ge}

exactly : (IsPlace E : List ℕ → ℕ → Type 0) (from j k : ℕ) → Halves IsPlace E from j → Halves IsPlace E from k ↔ (k ≡ j)
exactly IsPlace E from j k has = (λ other. no_second_jump IsPlace E from k j other has, λ e. subst (Halves IsPlace E from) (sym e) has)

-- the jump of a reading that was seen, for points of any kind
pub seen_by_exactly : (r : Rule) (m gamma a k : ℕ) → 1 ≤ m → m ≤ max_points → Home r m → a ≤ highest
    → Halves (PlaceBy r m gamma) (LastIs m a) 1 k ↔ (k ≡ seen_jump (near_by r gamma) m a)
seen_by_exactly r m gamma a k some few home byte = exactly _ _ 1 _ k (record {
  onward = seen_jump_ge (near_by r gamma) m a some;
  not_too_long = seen_by_not_too_long r m gamma some a;
  reaches = seen_by_reaches r m gamma some a home few byte;
})

module _ (delta gamma : ℕ) (x : List ℕ) (asked : Asked delta gamma x) where
  -- k has both halves, on this evidence, of a rule that passes windows from s + `from` on
  abbrev pub Both : (List ℕ → ℕ → Type 0) → ℕ → ℕ → Type 0
  Both E from k = Halves (Place delta gamma x) E from k

  -- ---- no second number has both halves, and the rule's jump has them
  module _ (bytes : Readings x) (k : ℕ) where
    pub last_reading_exactly : (a : ℕ) → a ≤ highest → Both (LastIs (length x) a) 0 k ↔ (k ≡ last_jump (fit_of (d_of delta gamma) x) (length x) a)
    last_reading_exactly a h = exactly _ _ 0 _ k (record {
      onward = omega arith;
      not_too_long = last_reading_not_too_long delta gamma x asked a;
      reaches = last_reading_reaches delta gamma x asked bytes a h;
    })

    pub next_reading_exactly : (a : ℕ) → a ≤ highest → Both (NextIs (length x) a) 1 k ↔ (k ≡ next_jump (fit_of (d_of delta gamma) x) (length x) a)
    next_reading_exactly a h = exactly _ _ 1 _ k (record {
      onward = next_jump_ge (fit_of (d_of delta gamma) x) (length x) a;
      not_too_long = next_reading_not_too_long delta gamma x asked a;
      reaches = next_reading_reaches delta gamma x asked bytes a h;
    })

    pub seen_reading_exactly : (a : ℕ) → a ≤ highest → Both (LastIs (length x) a) 1 k ↔ (k ≡ seen_jump (fit_of (d_of delta gamma) x) (length x) a)
    seen_reading_exactly a h = exactly _ _ 1 _ k (record {
      onward = seen_jump_ge (fit_of (d_of delta gamma) x) (length x) a asked.some;
      not_too_long = seen_reading_not_too_long delta gamma x asked a;
      reaches = seen_reading_reaches delta gamma x asked bytes a h;
    })

    pub after_check_exactly : Both (LastNear (d_of delta gamma) x) 1 k ↔ (k ≡ after_jump (d_of delta gamma) x)
    after_check_exactly = exactly _ _ 1 _ k (record {
      onward = after_jump_ge (d_of delta gamma) x asked.some;
      not_too_long = after_check_not_too_long delta gamma x asked;
      reaches = after_check_reaches delta gamma x asked bytes;
    })

    -- "For the last two the second half needs gamma at least m times d"
    module _ (wide : length x * d_of delta gamma ≤ gamma) where
      pub full_exactly : Both (AllNear (d_of delta gamma) x) 1 k ↔ (k ≡ full_jump (d_of delta gamma) x)
      full_exactly = exactly _ _ 1 _ k (record {
        onward = full_jump_ge (d_of delta gamma) x asked.some;
        not_too_long = full_not_too_long delta gamma x asked;
        reaches = full_reaches delta gamma x asked bytes wide;
      })

      pub mismatch_exactly : (p : ℕ) → p < length x → Both (Mismatch (d_of delta gamma) x p) 1 k ↔ (k ≡ mismatch_jump (d_of delta gamma) x p)
      mismatch_exactly p l = exactly _ _ 1 _ k (record {
        onward = mismatch_jump_ge (d_of delta gamma) x asked.some p;
        not_too_long = mismatch_not_too_long delta gamma x asked p l;
        reaches = mismatch_reaches delta gamma x asked bytes wide p l;
      })

  -- ---- "The larger of two jumps is never too long": the next-reading jump with the mismatch jump, and with the full jump
  pub next_or_mismatch_not_too_long : (a p : ℕ) → p < length x
      → NotTooLong (Place delta gamma x) (λ y s. NextIs (length x) a y s × Mismatch (d_of delta gamma) x p y s) 1
      (max (next_jump (fit_of (d_of delta gamma) x) (length x) a) (mismatch_jump (d_of delta gamma) x p))
  next_or_mismatch_not_too_long a p l =
      larger_not_too_long _ _ _ 1 _ _ (next_reading_not_too_long delta gamma x asked a) (mismatch_not_too_long delta gamma x asked p l)

  pub next_or_full_not_too_long : (a : ℕ)
      → NotTooLong (Place delta gamma x) (λ y s. NextIs (length x) a y s × AllNear (d_of delta gamma) x y s) 1
      (max (next_jump (fit_of (d_of delta gamma) x) (length x) a) (full_jump (d_of delta gamma) x))
  next_or_full_not_too_long a =
      larger_not_too_long _ _ _ 1 _ _ (next_reading_not_too_long delta gamma x asked a) (full_not_too_long delta gamma x asked)
