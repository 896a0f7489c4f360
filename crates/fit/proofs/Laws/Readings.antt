-- Laws of `lowest`, `alike` and `near`. Nobody else opens these definitions. Assumes nothing.
use mathlib.Core.Path.{◌≡◌}
use mathlib.Core.Bool.{true, false}
use mathlib.Core.Logic.{⊎_elim}
use Prim.Native.Nat.{ℕ, ◌≤◌, ◌<◌}
use native.Mathlib.Omega.{arith}
use lib.Dec.{leb}
use borrow.Author.Tests.{leb-true, le-leb}
use Rattle.fit.specs.Reading.{lowest, diff, alike, near}
use Rattle.fit.proofs.Laws.Bools.{and_left, and_right, and_both, not_both, is_false, le_or_lt}

-- 0 is below the lowest reading, and nothing else is
pub zero_below : lowest ≤ 0 → ⊥
unfolding lowest
zero_below h = omega arith

pub above_zero : (a : ℕ) → (a ≡ 0 → ⊥) → lowest ≤ a
unfolding lowest
above_zero a h = omega arith

pub alike_le : (k p q : ℕ) → alike k p q ≡ true → diff p q ≤ k
unfolding alike
alike_le k p q e = leb-true (diff p q) k e

pub le_alike : (k p q : ℕ) → diff p q ≤ k → alike k p q ≡ true
unfolding alike
le_alike k p q h = le-leb (diff p q) k h

-- what a near reading is: a reading that differs by at most d
pub near_le : (d p a : ℕ) → near d p a ≡ true → diff p a ≤ d
unfolding near
near_le d p a e = leb-true (diff p a) d (and_right (leb lowest a) (leb (diff p a) d) e)

pub near_lowest : (d p a : ℕ) → near d p a ≡ true → lowest ≤ a
unfolding near
near_lowest d p a e = leb-true lowest a (and_left (leb lowest a) (leb (diff p a) d) e)

pub le_near : (d p a : ℕ) → lowest ≤ a → diff p a ≤ d → near d p a ≡ true
unfolding near
le_near d p a l h = and_both (leb lowest a) (leb (diff p a) d) (le-leb lowest a l) (le-leb (diff p a) d h)

-- "0 is near to no point" (#103)
pub zero_far : (d p : ℕ) → near d p 0 ≡ false
zero_far d p = is_false (near d p 0) (λ e. zero_below (near_lowest d p 0 e))

-- and what else is not near
pub far_gt : (d p a : ℕ) → lowest ≤ a → near d p a ≡ false → d < diff p a
far_gt d p a l e = ⊎_elim (λ (h : diff p a ≤ d). absurd (not_both (le_near d p a l h) e)) (λ (h : d < diff p a). h) (le_or_lt (diff p a) d)

pub gt_far : (d p a : ℕ) → d < diff p a → near d p a ≡ false
gt_far d p a h = is_false (near d p a) (λ e. omega (arith, near_le d p a e))

-- a point that is a reading is near itself
pub near_self : (d p : ℕ) → lowest ≤ p → near d p p ≡ true
near_self d p l = le_near d p p l (omega arith)

-- a wider tolerance takes in what a narrower one does
pub near_wider : (d e p a : ℕ) → d ≤ e → near d p a ≡ true → near e p a ≡ true
near_wider d e p a h n = le_near e p a (near_lowest d p a n) (omega (arith, near_le d p a n))
