-- Laws of the windows that hold a probe: a step outwards, that a window which fits passes every step, and that m - 1 steps ask for all its points.
-- Assumes nothing.
use mathlib.Core.Path.{◌≡◌, refl, sym, ap, ap₂, ◌∙◌}
use mathlib.Core.Bool.{Bool, true, false, ◌&&◌, ◌||◌}
use mathlib.Core.List.{List}
use mathlib.Core.Logic.{⊎_elim}
use Prim.Native.Nat.{ℕ, zero, suc, ◌+◌, ◌-◌, ◌≤◌, ◌<◌}
use native.Mathlib.Nat.{eq-or-lt_of_le, le_of_suc-le-suc, not-suc-le-zero}
use native.Mathlib.Omega.{arith}
use lib.ListN.{get_or}
use lib.Dec.{leb, ltb}
use borrow.Author.Tests.{ltb-false, leb-false, le-ltb, lt-ltb, le-leb, lt-leb}
use Rattle.fit.specs.Rule.{reading_at, all_fit}
use Rattle.fit.proofs.Laws.Bools.{and_left, and_right, and_both, and_true, or_right, same_test, is_false, not_both, le_or_lt}
use Rattle.fit.proofs.Laws.Rules.{fit_at, fit_all}
use Rattle.marks.specs.Marks.{word_bits, bit, Marks, sieved}
use Rattle.marks.proofs.Laws.Bits.{zero_bit}
use Rattle.probe.specs.Around.{beside_suits, around_suits}

-- what is asked only where a first test fails
or_same : (a b c : Bool) → (a ≡ false → b ≡ c) → (a || b) ≡ (a || c)
or_same true b c h = refl
or_same false b c h = h refl

module _ (near : ℕ → ℕ → Bool) (m : ℕ) (y : List ℕ) (q : ℕ) where
  around_here : (i : ℕ) → around_suits near m y q 0 i ≡ near i (get_or y q 0)
  unfolding around_suits
  around_here i = refl

  around_next : (k i : ℕ) → 1 ≤ k → around_suits near m y q k i ≡ (around_suits near m y q (k - 1) i && beside_suits near m y q k i)
  unfolding around_suits
  around_next zero i h = absurd (not-suc-le-zero h)
  around_next (suc k) i h = let e : suc k - 1 ≡ k = omega arith in rw e

  -- the probe's own word
  pub here_marks : (w : ℕ) → Marks m (λ i. near i (get_or y q 0)) w → Marks m (around_suits near m y q 0) w
  here_marks w a = record { bound = a.bound; each = λ i h. a.each i h ∙ sym (around_here i) }

  -- which is all where there is one point
  pub alone_marks : (w : ℕ) → m ≡ 1 → Marks m (around_suits near m y q 0) w → Marks m (around_suits near m y q 1) w
  alone_marks w one a = record {
    bound = a.bound;
    each = λ i h.
        a.each i h
        ∙ sym (around_next 1 i (omega arith) ∙ rw (lt-ltb i 1 (omega arith), le-leb m (i + 1) (omega arith)) (and_true (around_suits near m y q 0 i)));
  }

  -- the words of the readings k before and k behind
  beside : (k before after i : ℕ) → i < m → Marks m (λ j. near j (get_or y (q - k) 0)) before → Marks m (λ j. near j (get_or y (q + k) 0)) after
      → ((ltb i k || bit before (i - k)) && (leb m (i + k) || bit after (i + k))) ≡ beside_suits near m y q k i
  beside k before after i h a b =
      ap₂ (λ (u v : Bool). u && v)
      (or_same (ltb i k) (bit before (i - k)) (near (i - k) (get_or y (q - k) 0)) (λ e. a.each (i - k) (omega arith)))
      (or_same (leb m (i + k)) (bit after (i + k)) (near (i + k) (get_or y (q + k) 0)) (λ e. b.each (i + k) (omega (arith, leb-false m (i + k) e))))

  -- a step outwards
  pub step_marks : (k mask before after r : ℕ) → 1 ≤ k → m ≤ word_bits → Marks m (around_suits near m y q (k - 1)) mask
      → Marks m (λ j. near j (get_or y (q - k) 0)) before → Marks m (λ j. near j (get_or y (q + k) 0)) after
      → (r ≤ mask) × Marks word_bits (sieved mask before after k m) r → Marks m (around_suits near m y q k) r
  step_marks k mask before after r pos few here a b s = record {
    bound = omega (arith, s.0, here.bound);
    each = λ i h.
        s.1.each i (omega arith) ∙ ap₂ (λ (u v : Bool). u && v) (here.each i h) (beside k before after i h a b) ∙ sym (around_next k i pos);
  }

  -- ---- the window at q - i: its reading at a point k away
  module _ (i : ℕ) (inside : i ≤ q) where
    reads : (j at : ℕ) → at + i ≡ q + j → near j (get_or y at 0) ≡ near j (reading_at y (q - i) j)
    reads j at e = let same : at ≡ q - i + j = omega arith in ap (λ (n : ℕ). near j (get_or y n 0)) same

    -- one that fits passes every step
    fits_around : i < m → all_fit near y (q - i) m ≡ true → (k : ℕ) → around_suits near m y q k i ≡ true
    unfolding around_suits
    fits_around h f zero = reads i q refl ∙ fit_at near y (q - i) m f i h
    fits_around h f (suc k) =
        and_both (around_suits near m y q k i) (beside_suits near m y q (suc k) i) (fits_around h f k)
        (and_both (ltb i (suc k) || near (i - suc k) (get_or y (q - suc k) 0)) (leb m (i + suc k) || near (i + suc k) (get_or y (q + suc k) 0))
        (or_same (ltb i (suc k)) (near (i - suc k) (get_or y (q - suc k) 0)) true
        (λ e. reads (i - suc k) (q - suc k) (omega (arith, ltb-false i (suc k) e)) ∙ fit_at near y (q - i) m f (i - suc k) (omega arith))
        ∙ or_right (ltb i (suc k)) true refl)
        (or_same (leb m (i + suc k)) (near (i + suc k) (get_or y (q + suc k) 0)) true
        (λ e. reads (i + suc k) (q + suc k) (omega arith) ∙ fit_at near y (q - i) m f (i + suc k) (omega (arith, leb-false m (i + suc k) e)))
        ∙ or_right (leb m (i + suc k)) true refl))

    -- one that passes k steps passes each of them
    around_less : (k d : ℕ) → d ≤ k → around_suits near m y q k i ≡ true → around_suits near m y q d i ≡ true
    unfolding around_suits
    around_less zero d h e = let none : d ≡ 0 = omega arith in rw none e
    around_less (suc k) d h e =
        ⊎_elim (λ (z : d ≡ suc k). rw z e)
        (λ (l : d < suc k). around_less k d (le_of_suc-le-suc l) (and_left (around_suits near m y q k i) (beside_suits near m y q (suc k) i) e))
        (eq-or-lt_of_le h)

    beside_at : (k d : ℕ) → 1 ≤ d → d ≤ k → around_suits near m y q k i ≡ true → beside_suits near m y q d i ≡ true
    beside_at k d pos h e =
        and_right (around_suits near m y q (d - 1) i) (beside_suits near m y q d i) (sym (around_next d i pos) ∙ around_less k d h e)

    -- one that passes m - 1 steps fits
    around_fits : (k : ℕ) → i < m → m ≤ k + 1 → around_suits near m y q k i ≡ true → all_fit near y (q - i) m ≡ true
    around_fits k h far e = fit_all near y (q - i) m (λ j l. ⊎_elim (before j l) (behind j l) (le_or_lt j i))
      where
        before : (j : ℕ) → j < m → j ≤ i → near j (reading_at y (q - i) j) ≡ true
        before j l b = ⊎_elim at_probe apart (eq-or-lt_of_le b)
          where
            at_probe : j ≡ i → near j (reading_at y (q - i) j) ≡ true
            at_probe z = sym (reads j q (omega arith)) ∙ rw z (sym (around_here i) ∙ around_less k 0 (omega arith) e)

            apart : j < i → near j (reading_at y (q - i) j) ≡ true
            apart z =
                let d : ℕ = i - j in
                let there : i - d ≡ j = omega arith in
                let left = and_left (ltb i d || near (i - d) (get_or y (q - d) 0)) (leb m (i + d) || near (i + d) (get_or y (q + d) 0)) (beside_at k d (omega arith) (omega arith) e) in
                sym (reads j (q - d) (omega arith)) ∙ rw there at (rw (le-ltb i d (omega arith)) at left)

        behind : (j : ℕ) → j < m → i < j → near j (reading_at y (q - i) j) ≡ true
        behind j l b =
            let d : ℕ = j - i in
            let there : i + d ≡ j = omega arith in
            let right = and_right (ltb i d || near (i - d) (get_or y (q - d) 0)) (leb m (i + d) || near (i + d) (get_or y (q + d) 0)) (beside_at k d (omega arith) (omega arith) e) in
            sym (reads j (q + d) (omega arith)) ∙ rw there at (rw (lt-leb m (i + d) (omega arith)) at right)

  -- ---- so the windows that are left after m - 1 steps are those that fit
  pub all_marks : (k mask : ℕ) → m ≤ k + 1 → m ≤ q + 1 → Marks m (around_suits near m y q k) mask → Marks m (λ i. all_fit near y (q - i) m) mask
  all_marks k mask far inside a = record {
    bound = a.bound;
    each = λ i h.
        a.each i h
        ∙ same_test (around_suits near m y q k i) (all_fit near y (q - i) m) (around_fits i (omega arith) k h far)
        (λ f. fits_around i (omega arith) h f k);
  }

  -- and where no window is left after some steps, none fits
  none_fits : (k i : ℕ) → i < m → m ≤ q + 1 → Marks m (around_suits near m y q k) 0 → all_fit near y (q - i) m ≡ false
  none_fits k i h inside a =
      is_false (all_fit near y (q - i) m) (λ f. not_both (a.each i h ∙ fits_around i (omega arith) h f k) (zero_bit i))

  pub none_marks : (k : ℕ) → m ≤ q + 1 → Marks m (around_suits near m y q k) 0 → Marks m (λ i. all_fit near y (q - i) m) 0
  none_marks k inside a = record { bound = a.bound; each = λ i h. zero_bit i ∙ sym (none_fits k i h inside a) }
