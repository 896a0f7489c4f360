-- Laws of skip's walk: how it goes, that it rises, and that it has every window whose readings are all near. Assumes nothing.
use mathlib.Core.Path.{◌≡◌, refl}
use mathlib.Core.Bool.{Bool, true, false, cond, ◌&&◌}
use mathlib.Core.Logic.{⊎_elim}
use mathlib.Core.List.Memᴰ
use mathlib.Core.List.{List, [], ◌∷◌, ◌++◌, Memᴰ}
use Prim.Native.Nat.{ℕ, zero, suc, ◌+◌, ◌-◌, ◌*◌, ◌≤◌, ◌<◌}
use native.Mathlib.Nat.{not-suc-le-zero, eq-or-lt_of_le, le_of_suc-le-suc}
use native.Mathlib.Omega.{arith}
use lib.ListN.{length, get_or, length-append}
use lib.Dec.{leb, ltb}
use borrow.Author.Tests.{le-leb, lt-leb, lt-ltb, le-ltb}
use Rattle.fit.specs.Rule.{reading_at}
use Rattle.fit.specs.Refusal.{max_points}
use Rattle.fit.specs.Listing.{Rising}
use Rattle.fit.specs.Listing.Rising.{none}
use Rattle.fit.proofs.Laws.Bools.{le_or_lt, and_both}
use Rattle.fit.proofs.Laws.Risings.{in_front, old_front, new_front, rising_front, rising_from, rising_append}
use Rattle.fit.specs.Answer.{Sought, Lent}
use Rattle.fit.specs.declared.answer.Found.{Found}
use Rattle.fit.proofs.Laws.Alongs.{Along, along_same, along_on}
use Rattle.skip.specs.Walk.{probed, probes, skip_walk}
use Rattle.fit.specs.Trying.{TriedAll}
use Rattle.fit.proofs.Laws.Tryings.{along_all}

-- ---- how long the walk can be, roughly: m windows a probe
front_short : (b : Bool) (a k : ℕ) (l : List ℕ) → length l ≤ k → length (cond b (a ∷ l) l) ≤ suc k
front_short true a k l h = omega (arith, h)
front_short false a k l h = omega (arith, h)

probed_short : (near : ℕ → ℕ → Bool) (m : ℕ) (y : List ℕ) (q i : ℕ) → length (probed near m y q i) ≤ i
unfolding probed
probed_short near m y q zero = omega arith
probed_short near m y q (suc i) = front_short (near i (get_or y q 0) && leb (q - i + m) (length y)) (q - i) i (probed near m y q i) (probed_short near m y q i)

probes_short : (near : ℕ → ℕ → Bool) (m : ℕ) (y : List ℕ) (k q : ℕ) → m ≤ max_points → length (probes near m y k q) ≤ max_points * k
unfolding probes
probes_short near m y zero q few = omega arith
probes_short near m y (suc k) q few = by_test (ltb q (length y)) (probed_short near m y q m) (probes_short near m y k (q + m) few)
  where
    by_test : (b : Bool) → length (probed near m y q m) ≤ m → length (probes near m y k (q + m)) ≤ max_points * k
        → length (cond b (probed near m y q m ++ probes near m y k (q + m)) []) ≤ max_points * suc k
    by_test true h l = omega (arith, h, l, few, length-append (probed near m y q m) (probes near m y k (q + m)))
    by_test false h l = omega arith

pub skip_short : (near : ℕ → ℕ → Bool) (m : ℕ) (y : List ℕ) → m ≤ max_points → length (skip_walk near m y) ≤ max_points * length y
unfolding skip_walk
skip_short near m y few = probes_short near m y (length y) (m - 1) few

module _ (near : ℕ → ℕ → Bool) (m : ℕ) (y : List ℕ) where
  -- the test of point i at the probe q
  abbrev tries : ℕ → ℕ → Bool
  tries q i = near i (get_or y q 0) && leb (q - i + m) (length y)

  -- ---- point by point
  probed_step : (q i : ℕ) → 0 < i → probed near m y q i ≡ cond (tries q (i - 1)) ((q - (i - 1)) ∷ probed near m y q (i - 1)) (probed near m y q (i - 1))
  unfolding probed
  probed_step q zero pos = absurd (not-suc-le-zero pos)
  probed_step q (suc i) pos = let e : suc i - 1 ≡ i = omega arith in rw e

  pub probed_try : (q i : ℕ) → 0 < i → near (i - 1) (get_or y q 0) ≡ true → q - (i - 1) + m ≤ length y
      → probed near m y q i ≡ (q - (i - 1)) ∷ probed near m y q (i - 1)
  probed_try q i pos f h = rw (probed_step q i pos, f, le-leb (q - (i - 1) + m) (length y) h)

  pub probed_far : (q i : ℕ) → 0 < i → near (i - 1) (get_or y q 0) ≡ false → probed near m y q i ≡ probed near m y q (i - 1)
  probed_far q i pos f = rw (probed_step q i pos, f)

  pub probed_out : (q i : ℕ) → 0 < i → near (i - 1) (get_or y q 0) ≡ true → length y < q - (i - 1) + m
      → probed near m y q i ≡ probed near m y q (i - 1)
  probed_out q i pos f h = rw (probed_step q i pos, f, lt-leb (q - (i - 1) + m) (length y) h)

  pub probed_none : (q i : ℕ) → i ≡ 0 → probed near m y q i ≡ []
  unfolding probed
  probed_none q i e = rw e

  front_length : (b : Bool) (a : ℕ) (l : List ℕ) → length (cond b (a ∷ l) l) ≤ suc (length l)
  front_length true a l = omega arith
  front_length false a l = omega arith

  -- a probe has at most one window a point
  probed_few : (q k : ℕ) → length (probed near m y q k) ≤ k
  unfolding probed
  probed_few q zero = omega arith
  probed_few q (suc k) = omega (arith, front_length (tries q k) (q - k) (probed near m y q k), probed_few q k)

  -- ---- probe by probe
  same_fuel : (k k' q : ℕ) → 1 ≤ m → length y ≤ k + q → length y ≤ k' + q → probes near m y k q ≡ probes near m y k' q
  unfolding probes
  same_fuel zero zero q pos h h' = refl
  same_fuel zero (suc k') q pos h h' = rw (le-ltb q (length y) (omega arith))
  same_fuel (suc k) zero q pos h h' = rw (le-ltb q (length y) (omega arith))
  same_fuel (suc k) (suc k') q pos h h' = rw (same_fuel k k' (q + m) pos (omega arith) (omega arith))

  pub walk_start : 1 ≤ m → skip_walk near m y ≡ probes near m y (length y - (m - 1)) (m - 1)
  unfolding skip_walk
  walk_start pos = same_fuel (length y) (length y - (m - 1)) (m - 1) pos (omega arith) (omega arith)

  open_probe : (k q : ℕ) → q < length y → probes near m y (suc k) q ≡ probed near m y q m ++ probes near m y k (q + m)
  unfolding probes
  open_probe k q h = rw (lt-ltb q (length y) h)

  walk_probe : (q : ℕ) → 1 ≤ m → q < length y
      → probes near m y (length y - q) q ≡ probed near m y q m ++ probes near m y (length y - (q + m)) (q + m)
  walk_probe q pos h =
      let k : ℕ = length y - q - 1 in
      let e : length y - q ≡ suc k = omega arith in
      rw (e, open_probe k q h, same_fuel k (length y - (q + m)) (q + m) pos (omega arith) (omega arith))

  pub walk_end : (q : ℕ) → length y ≤ q → probes near m y (length y - q) q ≡ []
  unfolding probes
  walk_end q h = let e : length y - q ≡ 0 = omega arith in rw e

  -- ---- it rises: within a probe as the points fall, and from probe to probe
  below_probe : (q k : ℕ) {s : ℕ} → Memᴰ s (probed near m y q k) → s < q + 1
  unfolding probed
  below_probe q zero h = absurd (Memᴰ.not-nil h)
  below_probe q (suc k) h =
      ⊎_elim (λ e. omega (arith, e.0)) (λ n. below_probe q k n) (in_front (tries q k) (q - k) (probed near m y q k) h)

  rising_probed : (q k : ℕ) → k ≤ q + 1 → Rising (q + 1 - k) (probed near m y q k)
  unfolding probed
  rising_probed q zero h = none
  rising_probed q (suc k) h =
      let e : q + 1 - k ≡ suc (q - k) = omega arith in
      rising_front (tries q k) (q + 1 - suc k) (q - k) (probed near m y q k) (omega arith) (rw e at (rising_probed q k (omega arith)))

  rising_if : (t : Bool) (b : ℕ) (l : List ℕ) → Rising b l → Rising b (cond t l [])
  rising_if true b l r = r
  rising_if false b l r = none

  rising_probes : (k q : ℕ) → m ≤ q + 1 → Rising (q + 1 - m) (probes near m y k q)
  unfolding probes
  rising_probes zero q h = none
  rising_probes (suc k) q h =
      let e : q + m + 1 - m ≡ q + 1 = omega arith in
      rising_if (ltb q (length y)) (q + 1 - m) (probed near m y q m ++ probes near m y k (q + m))
      (rising_append (rising_probed q m h) (omega arith) (λ a n. below_probe q m n) (rw e at (rising_probes k (q + m) (omega arith))))

  pub walk_rises : 1 ≤ m → Rising 0 (skip_walk near m y)
  unfolding skip_walk
  walk_rises pos = rising_from (omega arith) (rising_probes (length y) (m - 1) (omega arith))

  -- ---- it passes no window whose readings are all near: every window holds one probe
  has_probed : (q k i : ℕ) → i < k → near i (get_or y q 0) ≡ true → q - i + m ≤ length y → Memᴰ (q - i) (probed near m y q k)
  unfolding probed
  has_probed q zero i h f g = absurd (not-suc-le-zero h)
  has_probed q (suc k) i h f g =
      ⊎_elim
      (λ e. rw e (new_front (tries q k) (q - k) (probed near m y q k)
      (and_both (near k (get_or y q 0)) (leb (q - k + m) (length y)) (rw e at f) (le-leb (q - k + m) (length y) (rw e at g)))))
      (λ l. old_front (tries q k) (q - k) (probed near m y q k) (has_probed q k i l f g))
      (eq-or-lt_of_le (le_of_suc-le-suc h))

  has_probes : (k q s : ℕ) → 1 ≤ m → length y ≤ k + q → q < s + m → s + m ≤ length y
      → ((i : ℕ) → i < m → near i (reading_at y s i) ≡ true) → Memᴰ s (probes near m y k q)
  has_probes zero q s pos fuel close inside f = absurd (omega arith)
  has_probes (suc k) q s pos fuel close inside f =
      rw (open_probe k q (omega arith))
      (⊎_elim
      (λ (h : s ≤ q).
      let e : q - (q - s) ≡ s = omega arith in
      let e' : s + (q - s) ≡ q = omega arith in
      Memᴰ.append_left (probes near m y k (q + m))
      (rw e at (has_probed q m (q - s) (omega arith) (rw e' at (f (q - s) (omega arith))) (omega arith))))
      (λ (h : q < s). Memᴰ.append_right (probed near m y q m) (has_probes k (q + m) s pos (omega arith) (omega arith) inside f))
      (le_or_lt s q))

  pub walk_has : (s : ℕ) → 1 ≤ m → s + m ≤ length y → ((i : ℕ) → i < m → near i (reading_at y s i) ≡ true) → Memᴰ s (skip_walk near m y)
  unfolding skip_walk
  walk_has s pos inside f = has_probes (length y) (m - 1) s pos (omega arith) (omega arith) inside f

-- ---- a search along the walk, after one probe's windows
pub along_probe : (t : Sought) (near : ℕ → ℕ → Bool) (m : ℕ) (y : List ℕ) (q : ℕ) {walk : List ℕ} {entry held held' : Lent} {before r : Found}
    → 1 ≤ m → m ≤ q + 1 → q < length y → Along t walk (probes near m y (length y - q) q) (q + 1 - m) entry held before
    → TriedAll t (probed near m y q m) before held r held' → Along t walk (probes near m y (length y - (q + m)) (q + m)) (q + m + 1 - m) entry held' r
along_probe t near m y q pos le h f a =
    along_on refl (omega (arith, probed_few near m y q m)) (along_all t (probed near m y q m) (q + 1 - m) (along_same (walk_probe near m y q pos h) f) a)

-- ---- rules that find the same readings near have the same walk
module _ (near near' : ℕ → ℕ → Bool) (m : ℕ) (same : (i a : ℕ) → i < m → near i a ≡ near' i a) (y : List ℕ) where
  same_probed : (q k : ℕ) → k ≤ m → probed near m y q k ≡ probed near' m y q k
  unfolding probed
  same_probed q zero h = refl
  same_probed q (suc k) h = rw (same k (get_or y q 0) h, same_probed q k (omega arith))

  same_probes : (k q : ℕ) → probes near m y k q ≡ probes near' m y k q
  unfolding probes
  same_probes zero q = refl
  same_probes (suc k) q = rw (same_probed q m (omega arith), same_probes k (q + m))

  pub same_walk : skip_walk near m y ≡ skip_walk near' m y
  unfolding skip_walk
  same_walk = same_probes (length y) (m - 1)
