-- The jump of one step, as the code computes it from its tables. Assumes nothing.
use mathlib.Core.Path.{◌≡◌, refl, sym, ap, ◌∙◌}
use mathlib.Core.Bool.{Bool, true, false, cond}
use mathlib.Core.Logic.{⊎_elim}
use mathlib.Core.List.{List, [], ◌∷◌}
use Prim.Native.Nat.{ℕ, ◌+◌, ◌≤◌, ◌<◌, max}
use native.Mathlib.Nat.{not-suc-le-zero, le_of_suc-le-suc}
use native.Mathlib.Omega.{arith}
use lib.ListN.{length, get_or}
use lib.Dec.{ltb}
use borrow.Author.Tests.{lt-ltb, le-ltb}
use Rattle.fit.specs.Rule.{reading_at}
use Rattle.fit.specs.Place.{fit_of}
use Rattle.fit.specs.Refusal.{max_points}
use Rattle.fit.proofs.Laws.Bools.{either, le_or_lt}
use Rattle.jumps.specs.Jumps.{next_jump, mismatch_jump, full_jump}
use Rattle.comparing.specs.Leading.{leading}
use Rattle.comparing.specs.Order.{compare_order}
use Rattle.tables.specs.Holding.{Holds}
use Rattle.comparing.specs.Writing.{HoldsOrder}
use Rattle.comparing.proofs.Laws.Orders.{order_length, order_point}
use Rattle.leaping.specs.Walk.{near_at, compared_jump, maximal_next}

-- the point read from the table of the order
module _ (d : ℕ) (x order : List ℕ) (j q : ℕ) (holds : HoldsOrder d x order) (inside : j < length x) (read : q ≡ get_or order j 0) where
  pub compared_at : q ≡ get_or (compare_order d x) j 0
  compared_at = read ∙ holds.at j inside

  pub compared_in : q < length x
  compared_in = rw compared_at (order_point d x j inside)

-- ---- the first point of a list that is not near gives its mismatch jump; where there is none, the jump is the full one
module _ (d : ℕ) (x y : List ℕ) (s : ℕ) where
  abbrev near : ℕ → Bool
  near = near_at d x y s

  pub far_jump : (l : List ℕ) → leading near l < length l → compared_jump d x y s l ≡ mismatch_jump d x (get_or l (leading near l) 0)
  unfolding compared_jump leading
  far_jump [] h = absurd (not-suc-le-zero h)
  far_jump (q ∷ l) h =
      ⊎_elim (λ (e : near q ≡ true). rw e (far_jump l (le_of_suc-le-suc (rw e at h)))) (λ (e : near q ≡ false). rw e) (either (near q))

  pub no_far_jump : (l : List ℕ) → length l ≤ leading near l → compared_jump d x y s l ≡ full_jump d x
  unfolding compared_jump leading
  no_far_jump [] h = refl
  no_far_jump (q ∷ l) h =
      ⊎_elim (λ (e : near q ≡ true). rw e (no_far_jump l (le_of_suc-le-suc (rw e at h))))
      (λ (e : near q ≡ false). absurd (not-suc-le-zero (rw e at h))) (either (near q))

  -- so a table of the order and one of the mismatch jumps give the jump
  module _ (order jumps : List ℕ) (full j : ℕ) (orders : HoldsOrder d x order) (holds : Holds (mismatch_jump d x) (length x) max_points jumps)
      (whole : full ≡ full_jump d x) (head : j ≡ leading near (compare_order d x)) where
    pub compared_jump_is : cond (ltb j (length x)) (get_or jumps (get_or order j 0) 0) full ≡ compared_jump d x y s (compare_order d x)
    compared_jump_is =
        ⊎_elim
        (λ (l : length x ≤ j).
        rw (le-ltb j (length x) l) (whole ∙ sym (no_far_jump (compare_order d x) (omega (arith, head, order_length d x)))))
        (λ (l : j < length x).
        rw (lt-ltb j (length x) l)
        (holds.at (get_or order j 0) (compared_in d x order j (get_or order j 0) orders l refl)
        ∙ ap (mismatch_jump d x) (compared_at d x order j (get_or order j 0) orders l refl ∙ ap (λ (k : ℕ). get_or (compare_order d x) k 0) head)
        ∙ sym (far_jump (compare_order d x) (omega (arith, head, order_length d x)))))
        (le_or_lt (length x) j)

  -- and with the table of next-reading jumps the whole step
  pub step_is : (next : List ℕ) (jump : ℕ) → Holds (next_jump (fit_of d x) (length x)) 256 256 next → reading_at y s (length x) < 256
      → jump ≡ compared_jump d x y s (compare_order d x) → s + cond (ltb (s + length x) (length y)) (max (get_or next (get_or y (s + length x) 0) 0) jump) 1 ≡ maximal_next d x y s
  unfolding maximal_next
  step_is next jump holds byte e = rw (holds.at (reading_at y s (length x)) byte, e)
