-- Laws of one probe: which of its windows fit, told by a word of marks, and how many windows it has. Assumes nothing.
use mathlib.Core.Path.{◌≡◌, refl, sym, ◌∙◌}
use mathlib.Core.Bool.{Bool, true, false, cond}
use mathlib.Core.List.{List, [], ◌∷◌, ◌++◌}
use Prim.Native.Nat.{ℕ, zero, suc, ◌+◌, ◌-◌, ◌%◌, ◌^◌, ◌≤◌, ◌<◌}
use native.Mathlib.Nat.{add-zero, add-suc}
use native.Mathlib.Omega.{arith}
use lib.ListN.{length, get_or, length-append}
use Rattle.fit.specs.Rule.{all_fit}
use Rattle.fit.specs.Listing.{those, up_to}
use Rattle.fit.proofs.Laws.Rules.{fit_at}
use Rattle.marks.specs.Marks.{readings, bit, Marks}
use Rattle.marks.proofs.Laws.Marking.{Top, none_left, marks_count, top_all}
use Rattle.probe.specs.Around.{around_suits}
use Rattle.probe.proofs.Laws.Arounds.{none_marks}
use Rattle.stops.specs.Passing.{Tables, windows_at, near_windows}

-- ---- the windows of marked points, from the highest
module _ (mask q : ℕ) where
  at_clear : (j n : ℕ) → ((i : ℕ) → j ≤ i → i < j + n → bit mask i ≡ false) → windows_at (bit mask) q (j + n) ≡ windows_at (bit mask) q j
  unfolding windows_at
  at_clear j zero h = rw add-zero
  at_clear j (suc n) h = rw (add-suc, h (j + n) (omega arith) (omega arith)) (at_clear j n (λ i l u. h i l (omega arith)))

  at_point : (i : ℕ) → bit mask i ≡ true → windows_at (bit mask) q (suc i) ≡ (q - i) ∷ windows_at (bit mask) q i
  unfolding windows_at
  at_point i e = rw e

  pub marked_next : (i : ℕ) {point left : ℕ} → Top mask i point left → windows_at (bit mask) q i ≡ (q - point) ∷ windows_at (bit mask) q point
  marked_next i {point} top =
      let e : suc point + (i - suc point) ≡ i = omega (arith, top.below) in
      rw e at (at_clear (suc point) (i - suc point) (λ j l u. top.clear j (omega arith) (omega (arith, top.below)))) ∙ at_point point top.marked

  pub marked_none : (i : ℕ) → mask % 2 ^ i ≡ 0 → windows_at (bit mask) q i ≡ []
  unfolding windows_at
  marked_none i e = let all : 0 + i ≡ i = omega arith in rw all at (at_clear 0 i (λ j l u. none_left mask i j e (omega arith)))

module _ (near : ℕ → ℕ → Bool) (m : ℕ) (y : List ℕ) (q : ℕ) where
  abbrev fits : ℕ → Bool
  fits s = all_fit near y s m

  -- ---- of the windows of the probe those that fit are those of the marked points
  pub those_marked : (mask k : ℕ) → k ≤ m → m ≤ q + 1 → Marks m (λ i. fits (q - i)) mask
      → those fits (windows_at (λ i. near i (get_or y q 0)) q k) ≡ windows_at (bit mask) q k
  unfolding windows_at those
  those_marked mask zero h inside a = refl
  those_marked mask (suc k) h inside a = rw (a.each k h) (by_test (fits (q - k)) refl (those_marked mask k (omega arith) inside a))
    where
      suits : fits (q - k) ≡ true → near k (get_or y q 0) ≡ true
      suits f = let here : q - k + k ≡ q = omega arith in rw here at (fit_at near y (q - k) m f k h)

      skipped : (b : Bool) → fits (q - k) ≡ false → those fits (windows_at (λ i. near i (get_or y q 0)) q k) ≡ windows_at (bit mask) q k
          → those fits (cond b ((q - k) ∷ windows_at (λ i. near i (get_or y q 0)) q k) (windows_at (λ i. near i (get_or y q 0)) q k)) ≡ windows_at (bit mask) q k
      skipped true e same = rw e same
      skipped false e same = same

      by_test : (b : Bool) → fits (q - k) ≡ b → those fits (windows_at (λ i. near i (get_or y q 0)) q k) ≡ windows_at (bit mask) q k
          → those fits (cond (near k (get_or y q 0)) ((q - k) ∷ windows_at (λ i. near i (get_or y q 0)) q k) (windows_at (λ i. near i (get_or y q 0)) q k))
          ≡ cond b ((q - k) ∷ windows_at (bit mask) q k) (windows_at (bit mask) q k)
      by_test true e same = rw (suits e, e, same)
      by_test false e same = skipped (near k (get_or y q 0)) e same

  pub none_fit : m ≤ q + 1 → Marks m (around_suits near m y q 1) 0 → those fits (near_windows near m y q) ≡ []
  none_fit inside a = those_marked 0 m (omega arith) inside (none_marks near m y q 1 inside a) ∙ marked_none 0 q m (sym (top_all 0 m a.bound))

  -- ---- there are as many as points that the reading suits
  count_up : (test : ℕ → Bool) (k : ℕ) → length (windows_at test q k) ≡ length (up_to test k)
  unfolding windows_at up_to
  count_up test zero = refl
  count_up test (suc k) = by_test (test k) (count_up test k)
    where
      by_test : (b : Bool) → length (windows_at test q k) ≡ length (up_to test k)
          → length (cond b ((q - k) ∷ windows_at test q k) (windows_at test q k)) ≡ length (cond b (up_to test k ++ (k ∷ [])) (up_to test k))
      by_test true e = omega (arith, e, length-append (up_to test k) (k ∷ []))
      by_test false e = e

  pub probe_count : (table counts : List ℕ) (r : ℕ) → Tables m near table counts
      → (r ≡ get_or counts (get_or y q 0) 0) × (get_or y q 0 < readings) → length (near_windows near m y q) ≡ r
  probe_count table counts r t e =
      count_up (λ i. near i (get_or y q 0)) m
      ∙ sym (marks_count m (λ i. near i (get_or y q 0)) (get_or table (get_or y q 0) 0) (t.marks.word (get_or y q 0) e.1))
      ∙ sym (t.counted.each (get_or y q 0) e.1) ∙ sym e.0
