-- Laws of maximal's walk: how it goes, that it rises, and that it has every place. Assumes nothing.
use mathlib.Core.Path.{◌≡◌, refl, ◌∙◌}
use mathlib.Core.Bool.{Bool, true, false, cond}
use mathlib.Core.Logic.{⊎_elim}
use mathlib.Core.List.{List, [], ◌∷◌, Memᴰ}
use Prim.Native.Nat.{ℕ, ◌+◌, ◌-◌, ◌≤◌, ◌<◌}
use native.Mathlib.Omega.{arith}
use lib.ListN.{length, get_or}
use lib.Dec.{ltb}
use borrow.Author.Tests.{lt-ltb}
use Rattle.fit.specs.Rule.{reading_at}
use Rattle.fit.specs.Place.{fit_of, rule_of, Place, d_of, windows}
use Rattle.fit.specs.Listing.{Rising}
use Rattle.fit.specs.Walk.{walk_by}
use Rattle.fit.specs.Refusal.{Accepted}
use Rattle.fit.proofs.Laws.Bools.{either, le_or_lt, not_both}
use Rattle.fit.proofs.Laws.Places.{place_by, place_near, place_below, by_derived}
use Rattle.fit.proofs.Laws.Steps.{from_start, from_try, from_end, walk_rises, walk_has}
use Rattle.jumps.specs.Jumps.{next_jump}
use Rattle.jumps.specs.Demand.{Readings}
use Rattle.jumps.proofs.Laws.Sizes.{next_jump_ge, next_jump_le, mismatch_jump_le, full_jump_le}
use Rattle.jumps.proofs.Laws.Keeps.{next_keeps, full_keeps, mismatch_keeps}
use Rattle.comparing.specs.Leading.{leading}
use Rattle.comparing.specs.Order.{compare_order}
use Rattle.comparing.proofs.Laws.Leadings.{leading_at, leading_stop}
use Rattle.comparing.proofs.Laws.Orders.{order_length, order_point}
use Rattle.comparing.proofs.Laws.Seeing.{first_far, none_far}
use Rattle.leaping.specs.Walk.{near_at, compared_jump, larger_jump, maximal_next, maximal_walk}
use Rattle.leaping.proofs.Laws.Steps.{far_jump, no_far_jump}

-- ---- the walk goes forward
module _ (d : ℕ) (x y : List ℕ) where
  larger_ge : (s : ℕ) → 1 ≤ larger_jump d x y s
  larger_ge s = omega (arith, next_jump_ge (fit_of d x) (length x) (reading_at y s (length x)))

  one_or_more : (b : Bool) (k : ℕ) → 1 ≤ k → 1 ≤ cond b k 1
  one_or_more true k h = h
  one_or_more false k h = omega arith

  pub forward : (s : ℕ) → s < windows (length x) (length y) → s < maximal_next d x y s
  unfolding maximal_next
  forward s h = omega (arith, one_or_more (ltb (s + length x) (length y)) (larger_jump d x y s) (larger_ge s))

  -- by at most one more than m
  compared_le : 1 ≤ length x → (s : ℕ) (l : List ℕ) → compared_jump d x y s l ≤ length x
  unfolding compared_jump
  compared_le some s [] = full_jump_le d x some
  compared_le some s (q ∷ l) =
      ⊎_elim (λ (e : near_at d x y s q ≡ true). rw e (compared_le some s l)) (λ (e : near_at d x y s q ≡ false). rw e (mismatch_jump_le d x some q))
      (either (near_at d x y s q))

  at_most : (b : Bool) (k n : ℕ) → k ≤ n → 1 ≤ n → cond b k 1 ≤ n
  at_most true k n h l = h
  at_most false k n h l = l

  pub next_bound : 1 ≤ length x → (s : ℕ) → maximal_next d x y s ≤ s + (length x + 1)
  unfolding maximal_next
  next_bound some s =
      omega (
        arith,
        at_most (ltb (s + length x) (length y)) (larger_jump d x y s) (length x + 1)
            (omega (arith, next_jump_le (fit_of d x) (length x) (reading_at y s (length x)), compared_le some s (compare_order d x))) (omega arith),
      )

  -- what is left of it at the window at s
  abbrev pub left : ℕ → List ℕ
  left s = walk_by (λ t. true) (maximal_next d x y) (windows (length x) (length y)) (windows (length x) (length y) - s) s

  pub walk_start : maximal_walk d x y ≡ left 0
  walk_start = from_start (λ t. true) (maximal_next d x y) (windows (length x) (length y)) forward

  pub walk_step : (s : ℕ) → s < windows (length x) (length y) → left s ≡ s ∷ left (maximal_next d x y s)
  walk_step s h = from_try (λ t. true) (maximal_next d x y) (windows (length x) (length y)) forward s h refl

  pub walk_end : (s : ℕ) → windows (length x) (length y) ≤ s → left s ≡ []
  walk_end s h = from_end (λ t. true) (maximal_next d x y) (windows (length x) (length y)) forward s h

  pub maximal_rises : Rising 0 (maximal_walk d x y)
  maximal_rises = walk_rises (λ t. true) (maximal_next d x y) (windows (length x) (length y)) forward

  next_inside : (s : ℕ) → s + length x < length y → maximal_next d x y s ≡ s + larger_jump d x y s
  unfolding maximal_next
  next_inside s h = rw (lt-ltb (s + length x) (length y) h)

-- ---- and passes no place
module _ (delta gamma : ℕ) (x y : List ℕ) (ok : Accepted delta gamma x y) (readings : Readings y) where
  abbrev d : ℕ
  d = d_of delta gamma

  abbrev order : List ℕ
  order = compare_order d x

  module _ (s t : ℕ) (place : Place delta gamma x y t) (later : s < t) where
    inside : s + length x ≤ length y
    inside = omega (arith, place.inside)

    -- the points before the first that is not near are near, and it is not
    compared_keeps : s + compared_jump d x y s order ≤ t
    compared_keeps =
        let near : ℕ → Bool = near_at d x y s in
        ⊎_elim
        (λ (l : length order ≤ leading near order).
        rw (no_far_jump d x y s order l)
        (full_keeps delta gamma x y ok.asked s t place later readings
        (none_far d x y s inside (λ i h. leading_at near order i (omega (arith, order_length d x))))))
        (λ (l : leading near order < length order).
        rw (far_jump d x y s order l)
        (mismatch_keeps delta gamma x y ok.asked s t place later readings (get_or order (leading near order) 0)
        (order_point d x (leading near order) (omega (arith, order_length d x)))
        (first_far d x y s inside (leading near order) (λ i h. leading_at near order i h) (leading_stop near order l))))
        (le_or_lt (length order) (leading near order))

    next_reading_keeps : s + next_jump (fit_of d x) (length x) (reading_at y s (length x)) ≤ t
    next_reading_keeps =
        next_keeps (rule_of d x) (length x) gamma ok.asked.some y s t (by_derived delta gamma x y t ∙ place_by delta gamma x y t place) (omega (arith, place.inside)) later

    keeps : maximal_next d x y s ≤ t
    keeps = rw (next_inside d x y s (omega (arith, place.inside))) (omega (arith, compared_keeps, next_reading_keeps))

  pub maximal_has : (t : ℕ) → Place delta gamma x y t → Memᴰ t (maximal_walk d x y)
  maximal_has t place =
      walk_has (λ t. true) (maximal_next d x y) (windows (length x) (length y)) (forward d x y) t (place_below delta gamma x y t place) refl
      (λ s h. keeps s t place h)

  -- a window with a point that is not near is no place
  pub far_no_place : (s : ℕ) → leading (near_at d x y s) order < length x → Place delta gamma x y s → ⊥
  far_no_place s l place =
      not_both
      (place_near delta gamma x y s place (get_or order (leading (near_at d x y s) order) 0) (order_point d x (leading (near_at d x y s) order) l))
      (leading_stop (near_at d x y s) order (omega (arith, order_length d x)))
