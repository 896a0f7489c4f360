-- How long jumps are, when a last-reading jump is 0, the jumps of a reading that is near to no point, and how the jump of a reading that was
-- seen stands to the other rules. Assumes nothing.
use Prim.Native.Nat.{ℕ, ◌+◌, ◌-◌, ◌*◌, ◌≤◌, ◌<◌}
use mathlib.Core.Path.{◌≡◌, ◌∙◌}
use mathlib.Core.Bool.{Bool, true, false}
use mathlib.Core.List.{List}
use native.Mathlib.Omega.{arith}
use lib.ListN.{length, get_or}
use Rattle.fit.specs.Reading.{alike, near}
use Rattle.fit.specs.Place.{fit_of}
use Rattle.fit.proofs.Laws.Readings.{zero_far}
use Rattle.jumps.specs.Least.{greatest}
use Rattle.jumps.specs.Jumps.{last_jump, next_jump, seen_jump, after_jump, mismatch_at, mismatch_jump, full_at, full_jump}
use Rattle.jumps.proofs.Laws.Leasts.{greatest_le, greatest_holds, greatest_absent, greatest_hit, greatest_miss, greatest_mono, least_ge, least_le, least_greatest}
use Rattle.jumps.proofs.Laws.Nears.{both_near}

module _ (near : ℕ → ℕ → Bool) (m a : ℕ) where
  pub last_jump_le : last_jump near m a ≤ m
  last_jump_le = omega arith

  -- a jump of 0 says that the reading is near the last point, and only then is it 0
  pub last_jump_zero : 1 ≤ m → last_jump near m a ≡ 0 → near (m - 1) a ≡ true
  last_jump_zero some e =
      let le : greatest (λ i. near i a) m ≤ m = greatest_le (λ i. near i a) m in
      greatest_holds (λ i. near i a) m (m - 1) (omega arith)

  pub zero_last_jump : 1 ≤ m → near (m - 1) a ≡ true → last_jump near m a ≡ 0
  zero_last_jump some e = let g = greatest_hit (λ i. near i a) m some e in omega arith

  pub next_jump_ge : 1 ≤ next_jump near m a
  next_jump_ge = let le : greatest (λ i. near i a) m ≤ m = greatest_le (λ i. near i a) m in omega arith

  pub next_jump_le : next_jump near m a ≤ m + 1
  next_jump_le = omega arith

  -- "m if there is none"
  pub last_jump_most : ((i : ℕ) → i < m → near i a ≡ false) → last_jump near m a ≡ m
  last_jump_most far = let none = greatest_absent (λ i. near i a) m far in omega arith

  -- the next-reading jump is one more than the last-reading jump of the same reading
  pub next_is_last : next_jump near m a ≡ last_jump near m a + 1
  next_is_last = let le : greatest (λ i. near i a) m ≤ m = greatest_le (λ i. near i a) m in omega arith

-- ---- the jump of a reading that was seen
module _ (near : ℕ → ℕ → Bool) (m a : ℕ) (some : 1 ≤ m) where
  -- as the other rules that look at one reading count: from the greatest of the first m - 1 points
  pub seen_greatest : seen_jump near m a ≡ m - greatest (λ i. near i a) (m - 1)
  unfolding seen_jump
  seen_greatest = let whole : m - 1 + 1 ≡ m = omega arith in rw whole at (least_greatest (λ i. near i a) (m - 1))

  -- it is the last-reading jump of those points, plus 1
  pub seen_is_last : seen_jump near m a ≡ last_jump near (m - 1) a + 1
  seen_is_last = let le : greatest (λ i. near i a) (m - 1) ≤ m - 1 = greatest_le (λ i. near i a) (m - 1) in omega (arith, seen_greatest)

  -- and the last-reading jump of all m, where the reading is not near the last
  pub seen_where_far : near (m - 1) a ≡ false → seen_jump near m a ≡ last_jump near m a
  seen_where_far far = let miss = greatest_miss (λ i. near i a) m some far in omega (arith, seen_greatest, miss)

  pub seen_jump_ge : 1 ≤ seen_jump near m a
  unfolding seen_jump
  seen_jump_ge = least_ge (λ k. near (m - 1 - k) a) 1 (m - 1)

-- "for a near x[m] this jump is never shorter than the old one" (document 02, #108)
pub seen_not_shorter : (d : ℕ) (x : List ℕ) (a : ℕ) → 1 ≤ length x → near d (get_or x (length x - 1) 0) a ≡ true → after_jump d x ≤ seen_jump (fit_of d x) (length x) a
seen_not_shorter d x a some last-near =
    let n : ℕ = length x - 1 in
    let fewer = greatest_mono (λ i. near d (get_or x i 0) a) (λ i. alike (2 * d) (get_or x i 0) (get_or x n 0)) n
    (λ i l e. both_near d (get_or x i 0) (get_or x n 0) a e last-near) in
    omega (arith, fewer, seen_greatest (fit_of d x) (length x) a some)

-- "Last-reading and next-reading jumps for 0 become m and m + 1" (#103), whatever the points
module _ (d : ℕ) (x : List ℕ) where
  pub last_of_zero : last_jump (fit_of d x) (length x) 0 ≡ length x
  last_of_zero = last_jump_most (fit_of d x) (length x) 0 (λ i l. zero_far d (get_or x i 0))

  pub next_of_zero : next_jump (fit_of d x) (length x) 0 ≡ length x + 1
  next_of_zero = let same = next_is_last (fit_of d x) (length x) 0 in omega (arith, same, last_of_zero)

module _ (d : ℕ) (x : List ℕ) (some : 1 ≤ length x) where
  -- a 0 is near to no point, so after a window that ends with it the jump is m
  pub seen_of_zero : seen_jump (fit_of d x) (length x) 0 ≡ length x
  seen_of_zero = seen_where_far (fit_of d x) (length x) 0 some (zero_far d (get_or x (length x - 1) 0)) ∙ last_of_zero d x

  pub after_jump_ge : 1 ≤ after_jump d x
  after_jump_ge =
      let at : ℕ → Bool = λ i. alike (2 * d) (get_or x i 0) (get_or x (length x - 1) 0) in
      let le : greatest at (length x - 1) ≤ length x - 1 = greatest_le at (length x - 1) in
      omega arith

  pub mismatch_jump_ge : (p : ℕ) → 1 ≤ mismatch_jump d x p
  unfolding mismatch_jump
  mismatch_jump_ge p = least_ge (mismatch_at d x p) 1 (length x - 1)

  pub mismatch_jump_le : (p : ℕ) → mismatch_jump d x p ≤ length x
  unfolding mismatch_jump
  mismatch_jump_le p = omega (arith, least_le (mismatch_at d x p) 1 (length x - 1))

  pub full_jump_ge : 1 ≤ full_jump d x
  unfolding full_jump
  full_jump_ge = least_ge (full_at d x) 1 (length x - 1)

  pub full_jump_le : full_jump d x ≤ length x
  unfolding full_jump
  full_jump_le = omega (arith, least_le (full_at d x) 1 (length x - 1))
