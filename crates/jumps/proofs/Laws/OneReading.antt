-- Demand 3 for the three rules that look at one reading, for points of any kind. Assumes nothing.
use Prim.Native.Nat.{ℕ, suc, ◌+◌, ◌-◌, ◌≤◌, ◌<◌}
use mathlib.Core.Path.{◌≡◌, refl, sym, subst}
use mathlib.Core.Bool.{Bool, true}
use mathlib.Core.List.{List}
use native.Mathlib.Omega.{arith}
use Rattle.fit.specs.Reading.{highest}
use Rattle.fit.specs.Rule.{Rule, near_by}
use Rattle.fit.specs.Refusal.{max_points}
use Rattle.jumps.specs.Jumps.{last_jump, next_jump, seen_jump}
use Rattle.jumps.specs.Demand.{Passed, LastIs, NextIs, NotTooLong, Reaches}
use Rattle.jumps.proofs.Laws.Leasts.{greatest_same}
use Rattle.jumps.proofs.Laws.Sizes.{seen_greatest}
use Rattle.jumps.proofs.Laws.Frame.{Home, Some, Meet, PlaceBy}
use Rattle.jumps.proofs.Laws.Single.{single_passes, single_short}

-- rules that find the same readings near have the same jumps
module _ (near near' : ℕ → ℕ → Bool) (m a : ℕ) (same : (i : ℕ) → i < m → near i a ≡ near' i a) where
  pub last_same : last_jump near m a ≡ last_jump near' m a
  last_same = rw (greatest_same (λ i. near i a) (λ i. near' i a) m same)

  pub next_same : next_jump near m a ≡ next_jump near' m a
  next_same = rw (greatest_same (λ i. near i a) (λ i. near' i a) m same)

  pub seen_same : 1 ≤ m → seen_jump near m a ≡ seen_jump near' m a
  seen_same some =
      rw (seen_greatest near m a some, seen_greatest near' m a some, greatest_same (λ i. near i a) (λ i. near' i a) (m - 1) (λ i l. same i (omega arith)))

module _ (r : Rule) (m gamma : ℕ) (some : 1 ≤ m) (a : ℕ) where
  -- whatever values the recording has, and by any test that a reading passes where it may stand
  module _ (near : ℕ → ℕ → Bool) (wide : (i c : ℕ) → near_by r gamma i c ≡ true → near i c ≡ true) where
    stands : (i c : ℕ) → i < m → c ≡ a → near_by r gamma i c ≡ true → near i a ≡ true
    stands i c l e n = subst (λ (c : ℕ). near i c ≡ true) e (wide i c n)

    pub last_by_passes : (y : List ℕ) (s t : ℕ) → LastIs m a y s → Passed 0 (last_jump near m a) s t → PlaceBy r m gamma y t → ⊥
    last_by_passes =
        single_passes r m gamma (m - 1) m m 0 m (λ c. c ≡ a) (λ i. near i a) (omega arith) (omega arith) (omega arith) (omega arith) stands

    pub next_by_passes : (y : List ℕ) (s t : ℕ) → NextIs m a y s → Passed 1 (next_jump near m a) s t → PlaceBy r m gamma y t → ⊥
    next_by_passes =
        single_passes r m gamma m (suc m) m 1 (m + 1) (λ c. c ≡ a) (λ i. near i a) (omega arith) (omega arith) (omega arith) (omega arith) stands

    pub seen_by_passes : (y : List ℕ) (s t : ℕ) → LastIs m a y s → Passed 1 (seen_jump near m a) s t → PlaceBy r m gamma y t → ⊥
    seen_by_passes y s t e p =
        single_passes r m gamma (m - 1) m (m - 1) 1 m (λ c. c ≡ a) (λ i. near i a) (omega arith) (omega arith) (omega arith) (omega arith)
        (λ i c l. stands i c (omega arith)) y s t e (subst (λ (k : ℕ). Passed 1 k s t) (seen_greatest near m a some) p)

  pub last_by_not_too_long : NotTooLong (PlaceBy r m gamma) (LastIs m a) 0 (last_jump (near_by r gamma) m a)
  last_by_not_too_long y s t rd = last_by_passes (near_by r gamma) (λ i c n. n) y s t

  pub next_by_not_too_long : NotTooLong (PlaceBy r m gamma) (NextIs m a) 1 (next_jump (near_by r gamma) m a)
  next_by_not_too_long y s t rd = next_by_passes (near_by r gamma) (λ i c n. n) y s t

  pub seen_by_not_too_long : NotTooLong (PlaceBy r m gamma) (LastIs m a) 1 (seen_jump (near_by r gamma) m a)
  seen_by_not_too_long y s t rd = seen_by_passes (near_by r gamma) (λ i c n. n) y s t

  module _ (h : Home r m) (few : m ≤ max_points) (byte : a ≤ highest) where
    meets : (i : ℕ) → i < m → near_by r gamma i a ≡ true → Meet r gamma i (λ c. c ≡ a)
    meets i l e = record { c = a; byte = byte; seen = refl; near = e }

    itself : Some (λ c. c ≡ a)
    itself = record { c = a; byte = byte; seen = refl }

    pub last_by_reaches : Reaches (PlaceBy r m gamma) (LastIs m a) (last_jump (near_by r gamma) m a)
    last_by_reaches =
        single_short r m gamma (m - 1) m m 0 m (λ c. c ≡ a) (λ i. near_by r gamma i a) (omega arith) (omega arith) (omega arith) (omega arith) h (omega arith) meets itself

    pub next_by_reaches : Reaches (PlaceBy r m gamma) (NextIs m a) (next_jump (near_by r gamma) m a)
    next_by_reaches =
        single_short r m gamma m (suc m) m 1 (m + 1) (λ c. c ≡ a) (λ i. near_by r gamma i a) (omega arith) (omega arith) (omega arith) (omega arith) h (omega arith) meets itself

    pub seen_by_reaches : Reaches (PlaceBy r m gamma) (LastIs m a) (seen_jump (near_by r gamma) m a)
    seen_by_reaches =
        subst (Reaches (PlaceBy r m gamma) (LastIs m a)) (sym (seen_greatest (near_by r gamma) m a some))
        (single_short r m gamma (m - 1) m (m - 1) 1 m (λ c. c ≡ a) (λ i. near_by r gamma i a) (omega arith) (omega arith) (omega arith) (omega arith) h (omega arith)
        (λ i l. meets i (omega arith)) itself)
