-- Laws of what scores tell: of one window, of 16 and of 64. Assumes nothing.
use mathlib.Core.Path.{◌≡◌, refl, sym, ap, ◌∙◌}
use mathlib.Core.Bool.{true, false}
use mathlib.Core.List.{List}
use Prim.Native.Nat.{ℕ, ◌+◌, ◌-◌, ◌≤◌, ◌<◌}
use native.Mathlib.Omega.{arith}
use lib.ListN.{length, get_or, drop}
use Rattle.std.specs.List.{EachIndex, slice_range}
use Rattle.std.proofs.lemmas.List.{get_or-take, get_or-drop, length-drop, length-take-le}
use lib.Dec.{leb}
use borrow.Author.Tests.{lt-leb}
use Rattle.fit.specs.Rule.{Rule, sum_cost, is_place_by}
use Rattle.fit.specs.Verdict.{verdict_by}
use Rattle.fit.specs.Refusal.{max_gamma}
use Rattle.fit.specs.Listing.{Entries}
use Rattle.spans.specs.Score.{score_in}
use Rattle.spans.proofs.Laws.Scores.{score_place, score_sum}
use Rattle.block.specs.Block.{told_by}

-- ---- the window at s + j, by its score
pub told_at : (scores : List ℕ) (s gamma j v : ℕ) → v ≡ get_or scores j 0 → leb v gamma ≡ (told_by scores s gamma).place (s + j)
told_at scores s gamma j v e = let own : s + j - s ≡ j = omega arith in rw (own, e)

pub told_sum_at : (scores : List ℕ) (s gamma j : ℕ) → get_or scores j 0 ≡ (told_by scores s gamma).sum (s + j)
told_sum_at scores s gamma j = let own : s + j - s ≡ j = omega arith in rw own

-- ---- where the least of 16 scores is above gamma, none of the windows is a place
pub told_none : (scores : List ℕ) (s gamma at least : ℕ) → at + 16 ≤ length scores
    → EachIndex (slice_range scores at (at + 16)) (λ k. least ≤ get_or (slice_range scores at (at + 16)) k 0) → gamma < least
    → (j : ℕ) → j < 16 → (told_by scores s gamma).place (s + at + j) ≡ false
told_none scores s gamma at least inside least_is l j h =
    let own : s + at + j - s ≡ at + j = omega arith in
    let there : j < at + 16 - at = omega arith in
    let same = get_or-take (at + 16 - at) (drop at scores) j 0 there ∙ get_or-drop at scores j 0 in
    let long : at + 16 - at ≤ length (drop at scores) = omega (arith, length-drop at scores) in
    rw own (lt-leb (get_or scores (at + j) 0) gamma (omega (arith, same, least_is j (omega (arith, length-take-le (at + 16 - at) (drop at scores) long)))))

-- and where the least of all is above gamma, none at all
pub told_none_all : (scores : List ℕ) (s gamma least : ℕ) → EachIndex scores (λ k. least ≤ get_or scores k 0) → gamma < least
    → (j : ℕ) → j < length scores → (told_by scores s gamma).place (s + j) ≡ false
told_none_all scores s gamma least least_is l j h =
    let own : s + j - s ≡ j = omega arith in
    rw own (lt-leb (get_or scores j 0) gamma (omega (arith, least_is j h)))

-- ---- what the scores tell is what is sought
module _ (r : Rule) (y : List ℕ) (s m gamma : ℕ) {scores : List ℕ} (e : Entries (λ j. score_in (verdict_by r m gamma y (s + j))) 64 scores)
    (inside : s + 63 + m ≤ length y) (g : gamma ≤ max_gamma) (j : ℕ) (h : j < 64) where
  pub told_places : (told_by scores s gamma).place (s + j) ≡ is_place_by r m gamma y (s + j)
  told_places =
      sym (told_at scores s gamma j (get_or scores j 0) refl) ∙ ap (λ (v : ℕ). leb v gamma) (e.each j h) ∙ score_place r m gamma y (s + j) (omega arith) g

  pub told_sums : (told_by scores s gamma).place (s + j) ≡ true → (told_by scores s gamma).sum (s + j) ≡ sum_cost r.cost y (s + j) m
  told_sums p =
      sym (told_sum_at scores s gamma j) ∙ e.each j h ∙ score_sum r m gamma y (s + j) (omega arith) g (sym told_places ∙ p)
