-- Laws of the passes: one of them on one window and on all 64, and all of them. Assumes nothing.
use mathlib.Core.Path.{◌≡◌, refl, sym, ap, ◌∙◌}
use mathlib.Core.Bool.{Bool, true, false, cond, not}
use mathlib.Core.Logic.{⊎_elim}
use mathlib.Core.List.{List}
use Prim.Native.Nat.{ℕ, zero, suc, ◌+◌, ◌-◌, ◌*◌, ◌/◌, ◌≤◌, ◌<◌, max}
use native.Mathlib.Nat.{not-suc-le-zero, eq-or-lt_of_le}
use native.Mathlib.Numerals.{add-one}
use native.Mathlib.Omega.{arith}
use lib.ListN.{set, replicate}
use lib.Dec.{eqb}
use Rattle.fit.specs.Rule.{Rule, reading_at, all_fit, is_place_by}
use Rattle.fit.specs.Listing.{Entries}
use Rattle.fit.proofs.Laws.Bools.{and_left, and_right, and_both, all_three, is_false, not_both, same_test, le_or_lt}
use Rattle.fit.proofs.Laws.Rules.{fit_at, fit_all, by_fit}
use Rattle.fit.proofs.Laws.Entries.{entries_same, entries_as, no_second_entries, Rewritten, rewritten_none, rewritten_next, rewritten_all}
use Rattle.sieve.specs.Sieve.{mark, marks_of, some, pass, passes}
use Rattle.std.specs.Prelude.{Option, None, Some}
use Rattle.std.specs.Option.{is_some}
use Rattle.sieve.proofs.Laws.Marks.{max_marks, kept_mark, mark_set, none_some, some_none, some_same}

-- ---- one pass, of all windows: the first j are held to its points, with the largest mark among them
pub record Sifting (fits fits' : ℕ → Bool) (marks : List ℕ) (most j : ℕ) : Type 0 where
  pub marked : Rewritten (λ k. mark (fits k)) (λ k. mark (fits' k)) 64 marks j
  pub largest : most ≡ mark (some fits' j)

module _ (fits fits' : ℕ → Bool) where
  pub sifting_start : {marks : List ℕ} → Entries (λ k. mark (fits k)) 64 marks → Sifting fits fits' marks 0 0
  unfolding some
  sifting_start e = record { marked = rewritten_none (λ k. mark (fits k)) (λ k. mark (fits' k)) 64 e; largest = refl }

  pub sifting_next : (j v most most' : ℕ) {marks : List ℕ} → j < 64 → Sifting fits fits' marks most j → v ≡ mark (fits' j) → most' ≡ max most v
      → Sifting fits fits' (set marks j v) most' (j + 1)
  unfolding some
  sifting_next j v most most' h f e q = record {
    marked = rewritten_next (λ k. mark (fits k)) (λ k. mark (fits' k)) 64 j v h f.marked e;
    largest = rw (add-one, q, e, f.largest) (max_marks (some fits' j) (fits' j));
  }

  pub sifting_end : (most j : ℕ) {marks : List ℕ} → 64 ≤ j → j ≤ 64 → Sifting fits fits' marks most j
      → Entries (λ k. mark (fits' k)) 64 marks × (not (eqb most 0) ≡ some fits' 64)
  sifting_end most j h l f =
      let all : j ≡ 64 = omega arith in
      (rewritten_all (λ k. mark (fits k)) (λ k. mark (fits' k)) 64 j h f.marked, mark_set most (some fits' 64) (rw all at f.largest))

-- ---- all passes
module _ (fit : ℕ → ℕ → Bool) (m : ℕ) (y : List ℕ) where
  -- before the first, every window has its mark
  pub marked_all : (s : ℕ) → Entries (λ j. mark (passes fit m y (s + j) 0)) 64 (replicate 64 1)
  unfolding passes
  marked_all s = entries_same (λ j. mark (passes fit m y (s + j) 0)) 64 1 (λ j h. refl)

  -- one more
  pub passes_more : (t k old v : ℕ) → old ≡ mark (passes fit m y t k)
      → v ≡ cond (pass fit m k (reading_at y t k) (reading_at y t (m / 3 + k)) (reading_at y t (m - 1 - k))) old 0 → v ≡ mark (passes fit m y t (k + 1))
  unfolding passes
  passes_more t k old v o e =
      rw (add-one, e, o) (kept_mark (passes fit m y t k) (pass fit m k (reading_at y t k) (reading_at y t (m / 3 + k)) (reading_at y t (m - 1 - k))))

  -- where no window suits the points of one more, none is left
  pub none_pass : (s k : ℕ)
      → ((t : ℕ) → pass fit m k (reading_at y t k) (reading_at y t (m / 3 + k)) (reading_at y t (m - 1 - k)) ≡ false)
      → Entries (λ j. mark (passes fit m y (s + j) (k + 1))) 64 (replicate 64 0) × (false ≡ some (λ j. passes fit m y (s + j) (k + 1)) 64)
  unfolding passes
  none_pass s k h = (
    entries_same (λ j. mark (passes fit m y (s + j) (k + 1))) 64 0 (λ j l. ap mark (sym (out j))),
    sym (some_none (λ j. passes fit m y (s + j) (k + 1)) 64 (λ j l. out j)),
  )
    where
      out : (j : ℕ) → passes fit m y (s + j) (k + 1) ≡ false
      out j = rw add-one (is_false _ (λ e. not_both (and_right (passes fit m y (s + j) k) _ e) (h (s + j))))

  -- a window that fits suits the points of every pass
  fits_pass : (t k : ℕ) → 3 * k ≤ m + 2 → all_fit fit y t m ≡ true → passes fit m y t k ≡ true
  unfolding passes
  fits_pass t zero h e = refl
  fits_pass t (suc k) h e =
      and_both _ _ (fits_pass t k (omega arith) e)
      (and_both _ _ (fit_at fit y t m e k (omega arith)) (and_both _ _ (fit_at fit y t m e (m / 3 + k) (omega arith)) (fit_at fit y t m e (m - 1 - k) (omega arith))))

  -- and the passes look at every point
  pass_at : (t k i : ℕ) → passes fit m y t k ≡ true → i < k
      → (fit i (reading_at y t i) ≡ true) × (fit (m / 3 + i) (reading_at y t (m / 3 + i)) ≡ true) × (fit (m - 1 - i) (reading_at y t (m - 1 - i)) ≡ true)
  unfolding passes
  pass_at t zero i e h = absurd (not-suc-le-zero h)
  pass_at t (suc k) i e h =
      ⊎_elim (λ (z : i ≡ k). rw z (all_three _ _ _ (and_right (passes fit m y t k) _ e))) (λ (z : i < k). pass_at t k i (and_left (passes fit m y t k) _ e) z)
      (eq-or-lt_of_le (omega arith))

  pass_fits : (t k : ℕ) → m ≤ 3 * k → passes fit m y t k ≡ true → all_fit fit y t m ≡ true
  pass_fits t k h e = fit_all fit y t m each
    where
      each : (p : ℕ) → p < m → fit p (reading_at y t p) ≡ true
      each p l =
          ⊎_elim
          (λ (a : k ≤ p).
          ⊎_elim
          (λ (b : m ≤ p + k).
          let same : m - 1 - (m - 1 - p) ≡ p = omega arith in
          rw same at (pass_at t k (m - 1 - p) e (omega arith)).2)
          (λ (b : p + k < m).
          let same : m / 3 + (p - m / 3) ≡ p = omega arith in
          rw same at (pass_at t k (p - m / 3) e (omega arith)).1)
          (le_or_lt m (p + k)))
          (λ (a : p < k). (pass_at t k p e a).0)
          (le_or_lt k p)

  -- ---- what is left after the last pass are the windows that fit; where nothing is left before, none does
  pub left_fit : (s k : ℕ) → m ≤ 3 * k → 3 * k ≤ m + 2 → (j : ℕ) → j < 64 → passes fit m y (s + j) k ≡ all_fit fit y (s + j) m
  left_fit s k h l j b = same_test (passes fit m y (s + j) k) (all_fit fit y (s + j) m) (pass_fits (s + j) k h) (fits_pass (s + j) k l)

  none_fit : (s k : ℕ) → 3 * k ≤ m + 2 → some (λ j. passes fit m y (s + j) k) 64 ≡ false
      → (j : ℕ) → j < 64 → passes fit m y (s + j) k ≡ all_fit fit y (s + j) m
  none_fit s k l e j b =
      let gone = none_some (λ j. passes fit m y (s + j) k) 64 e j b in
      gone ∙ sym (is_false (all_fit fit y (s + j) m) (λ q. not_both (fits_pass (s + j) k l q) gone))

  pub sifted_as : (s k : ℕ) {marks : List ℕ} → ((j : ℕ) → j < 64 → passes fit m y (s + j) k ≡ all_fit fit y (s + j) m)
      → Entries (λ j. mark (passes fit m y (s + j) k)) 64 marks → some (λ j. passes fit m y (s + j) k) 64 ≡ true
      → Entries (λ j. mark (all_fit fit y (s + j) m)) 64 marks × (true ≡ some (λ j. all_fit fit y (s + j) m) 64)
  sifted_as s k h e a = (
    entries_as (λ j. mark (passes fit m y (s + j) k)) (λ j. mark (all_fit fit y (s + j) m)) 64 (λ j b. ap mark (h j b)) e,
    sym a ∙ some_same (λ j. passes fit m y (s + j) k) (λ j. all_fit fit y (s + j) m) 64 h,
  )

  pub none_sifted : (s k : ℕ) → 3 * k ≤ m + 2 → some (λ j. passes fit m y (s + j) k) 64 ≡ false
      → Entries (λ j. mark (all_fit fit y (s + j) m)) 64 (replicate 64 0) × (false ≡ some (λ j. all_fit fit y (s + j) m) 64)
  none_sifted s k l e = (
    entries_same (λ j. mark (all_fit fit y (s + j) m)) 64 0 (λ j b. ap mark (sym (none_some _ 64 e j b) ∙ none_fit s k l e j b)),
    sym e ∙ some_same (λ j. passes fit m y (s + j) k) (λ j. all_fit fit y (s + j) m) 64 (none_fit s k l e),
  )

-- ---- where no window fits, none is a place
pub no_place : (r : Rule) (m gamma : ℕ) (y : List ℕ) (s : ℕ) → some (λ j. all_fit r.fit y (s + j) m) 64 ≡ false
    → (j : ℕ) → j < 64 → is_place_by r m gamma y (s + j) ≡ false
no_place r m gamma y s e j l =
    is_false (is_place_by r m gamma y (s + j))
    (λ q. not_both (fit_all r.fit y (s + j) m (by_fit r m gamma y (s + j) q)) (none_some (λ j. all_fit r.fit y (s + j) m) 64 e j l))

-- no second answer
pub no_second_fitting : (fits : ℕ → Bool) (r r' : Option (List ℕ)) → Entries (λ j. mark (fits j)) 64 (marks_of r) × (is_some r ≡ some fits 64)
    → Entries (λ j. mark (fits j)) 64 (marks_of r') × (is_some r' ≡ some fits 64) → r ≡ r'
no_second_fitting fits None None a b = refl
no_second_fitting fits None (Some marks) a b = absurd (not_both (sym b.1) (sym a.1))
no_second_fitting fits (Some marks) None a b = absurd (not_both (sym a.1) (sym b.1))
no_second_fitting fits (Some marks) (Some marks') a b = ap (λ (l : List ℕ). Some l) (no_second_entries (λ j. mark (fits j)) 64 marks marks' a.0 b.0)
