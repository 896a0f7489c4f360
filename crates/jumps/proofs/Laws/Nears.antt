-- Which readings are near both of two points, and which near one and not the other. Assumes nothing.
use Prim.Native.Nat.{ℕ, ◌+◌, ◌-◌, ◌*◌, ◌≤◌, ◌<◌, min, max}
use mathlib.Core.Path.{◌≡◌, sym, ap, ◌∙◌}
use mathlib.Core.Bool.{Bool, true, false, not, ◌&&◌, ◌||◌}
use mathlib.Core.Logic.{⊎_elim}
use native.Mathlib.Omega.{arith}
use lib.Dec.{leb}
use borrow.Author.Tests.{not-true, le-leb}
use Rattle.fit.specs.Reading.{lowest, highest, diff, alike, near}
use Rattle.fit.proofs.Laws.Bools.{and_left, and_right, and_both, or_cases, or_left, or_right, same_test, le_or_lt}
use Rattle.fit.proofs.Laws.Readings.{alike_le, le_alike, near_le, near_lowest, le_near, far_gt, gt_far}
use Rattle.jumps.specs.Jumps.{lonely}
use Rattle.jumps.proofs.Laws.Leasts.{some_is, is_some}

not_of : (b : Bool) → b ≡ false → not b ≡ true
not_of b e = rw e

-- ---- a reading near both points
pub record NearBoth (d a b : ℕ) : Type 0 where
  pub c : ℕ
  pub byte : c ≤ highest
  pub fst : near d a c ≡ true
  pub snd : near d b c ≡ true

module _ (d : ℕ) where
  between : (a b : ℕ) → a ≤ highest → b ≤ highest → lowest ≤ a → lowest ≤ b → a ≤ b → diff a b ≤ 2 * d → NearBoth d a b
  between a b ha hb la lb ab h = record {
    c = min b (a + d);
    byte = omega arith;
    fst = le_near d a (min b (a + d)) (omega arith) (omega arith);
    snd = le_near d b (min b (a + d)) (omega arith) (omega arith);
  }

  pub near_both : (a b : ℕ) → a ≤ highest → b ≤ highest → lowest ≤ a → lowest ≤ b → alike (2 * d) a b ≡ true → NearBoth d a b
  near_both a b ha hb la lb e = let h = alike_le (2 * d) a b e in
      ⊎_elim (λ (l : a ≤ b). between a b ha hb la lb l h)
      (λ (l : b < a). let m = between b a hb ha lb la (omega arith) (omega arith) in record { c = m.c; byte = m.byte; fst = m.snd; snd = m.fst })
      (le_or_lt a b)

  pub both_near : (a b c : ℕ) → near d a c ≡ true → near d b c ≡ true → alike (2 * d) a b ≡ true
  both_near a b c m n = le_alike (2 * d) a b (omega (arith, near_le d a c m, near_le d b c n))

-- ---- a reading near a and not near b
pub record NearOnly (d a b : ℕ) : Type 0 where
  pub c : ℕ
  pub byte : c ≤ highest
  pub near_one : near d a c ≡ true
  pub not_other : near d b c ≡ false

module _ (d : ℕ) where
  pub lonely_is : (a b : ℕ) → lonely d a b ≡ true → NearOnly d a b
  unfolding lonely
  lonely_is a b e =
      let r = some_is (λ c. leb lowest c && (near d a c && not (near d b c))) (highest + 1) e in
      let told = and_right (leb lowest r.0) (near d a r.0 && not (near d b r.0)) r.2 in
      record {
        c = r.0;
        byte = omega (arith, r.1);
        near_one = and_left (near d a r.0) (not (near d b r.0)) told;
        not_other = not-true (near d b r.0) (and_right (near d a r.0) (not (near d b r.0)) told);
      }

  pub is_lonely : (a b : ℕ) → NearOnly d a b → lonely d a b ≡ true
  unfolding lonely
  is_lonely a b n =
      is_some (λ c. leb lowest c && (near d a c && not (near d b c))) (highest + 1) n.c (omega (arith, n.byte))
      (and_both (leb lowest n.c) (near d a n.c && not (near d b n.c)) (le-leb lowest n.c (near_lowest d a n.c n.near_one))
      (and_both (near d a n.c) (not (near d b n.c)) n.near_one (not_of (near d b n.c) n.not_other)))

  -- the two ends of what is near a decide
  abbrev pub ends : ℕ → ℕ → Bool
  ends a b = not (near d b (max lowest (a - d))) || not (near d b (min highest (a + d)))

  low_end : (a b : ℕ) → a ≤ highest → lowest ≤ a → near d b (max lowest (a - d)) ≡ false → NearOnly d a b
  low_end a b h r e = record {
    c = max lowest (a - d);
    byte = omega arith;
    near_one = le_near d a (max lowest (a - d)) (omega arith) (omega arith);
    not_other = e;
  }

  high_end : (a b : ℕ) → a ≤ highest → lowest ≤ a → near d b (min highest (a + d)) ≡ false → NearOnly d a b
  high_end a b h r e = record {
    c = min highest (a + d);
    byte = omega arith;
    near_one = le_near d a (min highest (a + d)) (omega arith) (omega arith);
    not_other = e;
  }

  beyond : (b c : ℕ) → d < diff b c → not (near d b c) ≡ true
  beyond b c h = not_of (near d b c) (gt_far d b c h)

  -- what is farther out on the same side is far too
  lower : (b c e : ℕ) → e ≤ c → c ≤ b → d < diff b c → d < diff b e
  lower b c e h l f = omega arith

  higher : (b c e : ℕ) → c ≤ e → b < c → d < diff b c → d < diff b e
  higher b c e h l f = omega arith

  low_below : (a c : ℕ) → lowest ≤ c → diff a c ≤ d → max lowest (a - d) ≤ c
  low_below a c r h = omega arith

  high_above : (a c : ℕ) → c ≤ highest → diff a c ≤ d → c ≤ min highest (a + d)
  high_above a c r h = omega arith

  only_ends : (a b : ℕ) → NearOnly d a b → ends a b ≡ true
  only_ends a b n = ⊎_elim
      (λ (l : c ≤ b). or_left (not (near d b low)) (not (near d b high)) (beyond b low (lower b c low (low_below a c real within) l away)))
      (λ (l : b < c). or_right (not (near d b low)) (not (near d b high)) (beyond b high (higher b c high (high_above a c n.byte within) l away)))
      (le_or_lt c b)
    where
      c : ℕ
      c = n.c

      low : ℕ
      low = max lowest (a - d)

      high : ℕ
      high = min highest (a + d)

      within : diff a c ≤ d
      within = near_le d a c n.near_one

      real : lowest ≤ c
      real = near_lowest d a c n.near_one

      away : d < diff b c
      away = far_gt d b c real n.not_other

  -- "some reading c" by two readings
  pub lonely_ends : (a b : ℕ) → a ≤ highest → lowest ≤ a → lonely d a b ≡ ends a b
  lonely_ends a b h r =
      same_test (lonely d a b) (ends a b) (λ e. only_ends a b (lonely_is a b e))
      (λ e. ⊎_elim
      (λ u. is_lonely a b (low_end a b h r (not-true (near d b (max lowest (a - d))) u)))
      (λ u. is_lonely a b (high_end a b h r (not-true (near d b (min highest (a + d))) u)))
      (or_cases (not (near d b (max lowest (a - d)))) (not (near d b (min highest (a + d)))) e))

-- as the code has them: l and h are the ends, and nl and nh say whether they are near b
module _ (d a b l : ℕ) {nl : Bool} (byte : a ≤ highest) (real : lowest ≤ a) (low : l ≡ max lowest (a - d)) (near-low : nl ≡ near d b l) where
  by_ends : lonely d a b ≡ (not nl || not (near d b (min highest (a + d))))
  by_ends =
      lonely_ends d a b byte real
      ∙ ap (λ (t : Bool). not t || not (near d b (min highest (a + d)))) (sym (near-low ∙ ap (near d b) low))

  pub low_decides : nl ≡ false → true ≡ lonely d a b
  low_decides f = sym (by_ends ∙ ap (λ (t : Bool). not t || not (near d b (min highest (a + d)))) f)

  pub high_decides : (h : ℕ) {nh : Bool} → nl ≡ true → h ≡ min highest (a + d) → nh ≡ near d b h → not nh ≡ lonely d a b
  high_decides h t high near-high =
      ap not (near-high ∙ ap (near d b) high) ∙ sym (by_ends ∙ ap (λ (t : Bool). not t || not (near d b (min highest (a + d)))) t)
