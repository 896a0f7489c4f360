-- Laws of scores in the making. Assumes nothing.
use mathlib.Core.Path.{◌≡◌, ap, ◌∙◌}
use mathlib.Core.Bool.{Bool, true, false, cond}
use mathlib.Core.List.{List}
use Prim.Native.Nat.{ℕ, ◌+◌, ◌≤◌, min}
use native.Mathlib.Omega.{arith}
use lib.ListN.{get_or}
use lib.Dec.{eqb}
use Rattle.fit.specs.Rule.{Rule, reading_at, all_fit, sum_cost}
use Rattle.fit.specs.Verdict.{verdict_by}
use Rattle.fit.specs.Listing.{Entries}
use Rattle.fit.proofs.Laws.Rules.{sum_none, sum_more}
use Rattle.fit.proofs.Laws.Entries.{entries_as}
use Rattle.sieve.specs.Sieve.{mark}
use Rattle.spans.specs.Score.{most_score, score_in}
use Rattle.spans.proofs.Laws.Scores.{score_told}
use Rattle.score.specs.Score.{Scored, score_after}

-- ---- one window
-- before its first point, by its mark
begun_by : (b : Bool) (v : ℕ) → v ≡ mark b → cond (eqb v 0) most_score 0 ≡ cond b (min 0 most_score) most_score
begun_by true v e = rw e
begun_by false v e = rw e

begun_score : (r : Rule) (m : ℕ) (y : List ℕ) (s v : ℕ) → v ≡ mark (all_fit r.fit y s m) → cond (eqb v 0) most_score 0 ≡ score_after r m y 0 s
begun_score r m y s v e = rw (sum_none r.cost y s) (begun_by (all_fit r.fit y s m) v e)

-- one point more
added_by : (b : Bool) (sum cost : ℕ) → min (cond b (min sum most_score) most_score + cost) most_score ≡ cond b (min (sum + cost) most_score) most_score
added_by true sum cost = omega arith
added_by false sum cost = omega arith

pub added_score : (r : Rule) (m : ℕ) (y : List ℕ) (s k old v : ℕ) → old ≡ score_after r m y k s → v ≡ min (old + r.cost k (reading_at y s k)) most_score
    → v ≡ score_after r m y (k + 1) s
added_score r m y s k old v e q =
    rw (sum_more r.cost y s k) (rw e at q ∙ added_by (all_fit r.fit y s m) (sum_cost r.cost y s k) (r.cost k (reading_at y s k)))

-- ---- 64 windows: before their first point, and after their last
pub scores_begun : (r : Rule) (m : ℕ) (y : List ℕ) (s : ℕ) {marks scores : List ℕ} → Entries (λ j. mark (all_fit r.fit y (s + j) m)) 64 marks
    → Entries (λ j. cond (eqb (get_or marks j 0) 0) most_score 0) 64 scores → Entries (λ j. score_after r m y 0 (s + j)) 64 scores
scores_begun r m y s {marks} told e =
    entries_as (λ j. cond (eqb (get_or marks j 0) 0) most_score 0) (λ j. score_after r m y 0 (s + j)) 64
    (λ j h. begun_score r m y (s + j) (get_or marks j 0) (told.each j h)) e

pub scores_all : (r : Rule) (m : ℕ) (y : List ℕ) (s i : ℕ) {scores : List ℕ} → i ≤ m → m ≤ i → Entries (λ j. score_after r m y i (s + j)) 64 scores
    → Scored r m y s scores
scores_all r m y s i {scores} h l e gamma =
    let last : i ≡ m = omega arith in
    entries_as (λ j. score_after r m y i (s + j)) (λ j. score_in (verdict_by r m gamma y (s + j))) 64
    (λ j b. ap (λ (k : ℕ). score_after r m y k (s + j)) last ∙ score_told r m gamma y (s + j)) e
