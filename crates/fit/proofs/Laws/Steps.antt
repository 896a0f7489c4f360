-- Laws of a walk that goes forward: how it goes on, that it rises, and which windows it has. Assumes nothing.
use mathlib.Core.Path.{◌≡◌, refl, ap}
use mathlib.Core.Bool.{Bool, true, false, cond}
use mathlib.Core.Logic.{⊎_elim}
use mathlib.Core.List.Memᴰ
use mathlib.Core.List.{List, [], ◌∷◌, Memᴰ}
use Prim.Native.Nat.{ℕ, zero, suc, ◌+◌, ◌-◌, ◌≤◌, ◌<◌}
use native.Mathlib.Omega.{arith}
use lib.ListN.{length}
use lib.Dec.{ltb}
use borrow.Author.Tests.{lt-ltb, le-ltb}
use Rattle.fit.specs.Listing.{Rising}
use Rattle.fit.specs.Listing.Rising.{none}
use Rattle.fit.specs.Walk.{walk_by, walk, every_window}
use Rattle.fit.proofs.Laws.Bools.{le_or_lt}
use Rattle.fit.proofs.Laws.Risings.{old_front, new_front, rising_front, rising_from}

-- ---- a walk has no more windows than steps
step_short : (a b : Bool) (s k : ℕ) (w : List ℕ) → length w ≤ k → length (cond a (cond b (s ∷ w) w) []) ≤ suc k
step_short true true s k w h = omega (arith, h)
step_short true false s k w h = omega (arith, h)
step_short false b s k w h = omega arith

short_by : (tries : ℕ → Bool) (next : ℕ → ℕ) (count k s : ℕ) → length (walk_by tries next count k s) ≤ k
unfolding walk_by
short_by tries next count zero s = omega arith
short_by tries next count (suc k) s = step_short (ltb s count) (tries s) s k (walk_by tries next count k (next s)) (short_by tries next count k (next s))

pub walk_short : (tries : ℕ → Bool) (next : ℕ → ℕ) (count : ℕ) → length (walk tries next count) ≤ count
unfolding walk
walk_short tries next count = short_by tries next count count 0

module _ (tries : ℕ → Bool) (next : ℕ → ℕ) (count : ℕ) (forward : (s : ℕ) → s < count → s < next s) where
  -- steps that are enough are enough
  same_fuel : (k k' s : ℕ) → count ≤ k + s → count ≤ k' + s → walk_by tries next count k s ≡ walk_by tries next count k' s
  unfolding walk_by
  same_fuel zero zero s h h' = refl
  same_fuel zero (suc k') s h h' = rw (le-ltb s count (omega arith))
  same_fuel (suc k) zero s h h' = rw (le-ltb s count (omega arith))
  same_fuel (suc k) (suc k') s h h' =
      ⊎_elim (λ (l : count ≤ s). rw (le-ltb s count l))
      (λ (l : s < count).
      rw (same_fuel k k' (next s) (omega (arith, forward s l)) (omega (arith, forward s l))))
      (le_or_lt count s)

  -- the walk, from the window at 0 on and from the window at s on
  pub from_start : walk tries next count ≡ walk_by tries next count (count - 0) 0
  unfolding walk
  from_start = same_fuel count (count - 0) 0 (omega arith) (omega arith)

  open_step : (k s : ℕ) → s < count
      → walk_by tries next count (suc k) s ≡ cond (tries s) (s ∷ walk_by tries next count k (next s)) (walk_by tries next count k (next s))
  unfolding walk_by
  open_step k s h = rw (lt-ltb s count h)

  from_step : (s : ℕ) → s < count
      → walk_by tries next count (count - s) s
      ≡ cond (tries s) (s ∷ walk_by tries next count (count - next s) (next s)) (walk_by tries next count (count - next s) (next s))
  from_step s h =
      let k : ℕ = count - s - 1 in
      let e : count - s ≡ suc k = omega arith in
      rw (e, open_step k s h, same_fuel k (count - next s) (next s) (omega (arith, forward s h)) (omega arith))

  pub from_try : (s : ℕ) → s < count → tries s ≡ true
      → walk_by tries next count (count - s) s ≡ s ∷ walk_by tries next count (count - next s) (next s)
  from_try s h e = rw (from_step s h, e)

  pub from_pass : (s : ℕ) → s < count → tries s ≡ false
      → walk_by tries next count (count - s) s ≡ walk_by tries next count (count - next s) (next s)
  from_pass s h e = rw (from_step s h, e)

  pub from_end : (s : ℕ) → count ≤ s → walk_by tries next count (count - s) s ≡ []
  unfolding walk_by
  from_end s h = let e : count - s ≡ 0 = omega arith in rw e

  rises : (k s : ℕ) → Rising s (walk_by tries next count k s)
  unfolding walk_by
  rises zero s = none
  rises (suc k) s =
      ⊎_elim (λ (l : count ≤ s). rw (le-ltb s count l) none)
      (λ (l : s < count).
      rw (lt-ltb s count l)
      (rising_front (tries s) s s (walk_by tries next count k (next s)) (omega arith) (rising_from (forward s l) (rises k (next s)))))
      (le_or_lt count s)

  pub walk_rises : Rising 0 (walk tries next count)
  unfolding walk
  walk_rises = rises count 0

  -- a window that is tried where the walk comes to it, and that no step passes, is among the windows tried
  module _ (t : ℕ) (inside : t < count) (tried : tries t ≡ true) (kept : (s : ℕ) → s < t → next s ≤ t) where
    has : (k s : ℕ) → count ≤ k + s → s ≤ t → Memᴰ t (walk_by tries next count k s)
    has zero s fuel h = absurd (omega arith)
    has (suc k) s fuel h =
        rw (open_step k s (omega arith))
        (⊎_elim
        (λ (l : t ≤ s).
        let e : t ≡ s = omega arith in
        Memᴰ.cast e (new_front (tries s) s (walk_by tries next count k (next s)) (rw e at tried)))
        (λ (l : s < t).
        old_front (tries s) s (walk_by tries next count k (next s))
        (has k (next s) (omega (arith, forward s (omega arith))) (kept s l)))
        (le_or_lt t s))

    pub walk_has : Memᴰ t (walk tries next count)
    unfolding walk
    walk_has = has count 0 (omega arith) (omega arith)

-- ---- the walk that tries every window
module _ (count : ℕ) where
  every_forward : (s : ℕ) → s < count → s < s + 1
  every_forward s h = omega arith

  pub every_start : every_window count ≡ walk_by (λ s. true) (λ s. s + 1) count (count - 0) 0
  every_start = from_start (λ s. true) (λ s. s + 1) count every_forward

  pub every_step : (s : ℕ) → s < count
      → walk_by (λ s. true) (λ s. s + 1) count (count - s) s ≡ s ∷ walk_by (λ s. true) (λ s. s + 1) count (count - (s + 1)) (s + 1)
  every_step s h = from_try (λ s. true) (λ s. s + 1) count every_forward s h refl

  pub every_end : (s : ℕ) → count ≤ s → walk_by (λ s. true) (λ s. s + 1) count (count - s) s ≡ []
  every_end s h = from_end (λ s. true) (λ s. s + 1) count every_forward s h

  pub every_rises : Rising 0 (every_window count)
  every_rises = walk_rises (λ s. true) (λ s. s + 1) count every_forward

  pub every_has : (t : ℕ) → t < count → Memᴰ t (every_window count)
  every_has t h = walk_has (λ s. true) (λ s. s + 1) count every_forward t h refl (λ s l. omega arith)

  every_length : (k s : ℕ) → s + k ≡ count → length (walk_by (λ s. true) (λ s. s + 1) count k s) ≡ k
  unfolding walk_by
  every_length zero s e = refl
  every_length (suc k) s e = rw (lt-ltb s count (omega arith)) (ap suc (every_length k (s + 1) (omega arith)))

  -- "n - m + 1 of them, or 0"
  pub every_count : length (every_window count) ≡ count
  unfolding walk
  every_count = every_length count 0 (omega arith)
