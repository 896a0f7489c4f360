-- Laws of scores: the score says whether a window is a place, and of a place the sum. Assumes nothing.
use mathlib.Core.Path.{◌≡◌, refl, ap, ◌∙◌}
use mathlib.Core.Bool.{Bool, true, false, cond, ◌&&◌}
use mathlib.Core.Logic.{⊎_elim}
use mathlib.Core.List.{List}
use Prim.Native.Nat.{ℕ, ◌+◌, ◌≤◌, min}
use native.Mathlib.Omega.{arith}
use lib.ListN.{length}
use lib.Dec.{leb}
use borrow.Author.Tests.{le-leb, lt-leb, leb-true}
use Rattle.fit.specs.Rule.{Rule, all_fit, sum_cost, is_place_by}
use Rattle.fit.specs.Verdict.{verdict_by}
use Rattle.fit.specs.Refusal.{max_gamma}
use Rattle.fit.specs.Answer.{sought_by, Lent, Noted, Tried}
use Rattle.fit.specs.declared.answer.Found.{Found}
use Rattle.fit.proofs.Laws.Bools.{either, same_test}
use Rattle.fit.proofs.Laws.Rules.{by_within}
use Rattle.fit.proofs.Laws.Verdicts.{fits_exactly, told_near, told_broken}
use Rattle.fit.proofs.Laws.Answers.{noted_as}
use Rattle.spans.specs.Score.{most_score, score_in}

-- the whole score is what the check's answer says
pub score_told : (r : Rule) (m gamma : ℕ) (y : List ℕ) (s : ℕ) → cond (all_fit r.fit y s m) (min (sum_cost r.cost y s m) most_score) most_score ≡ score_in (verdict_by r m gamma y s)
unfolding score_in
score_told r m gamma y s =
    ⊎_elim (λ (e : all_fit r.fit y s m ≡ true). let told = told_near r m gamma y s e in rw (e, told.0, told.1))
    (λ (e : all_fit r.fit y s m ≡ false). let told = told_broken r m gamma y s e in rw (e, told)) (either (all_fit r.fit y s m))

-- told by a test: where all readings suit, and where one does not
module _ (r : Rule) (m gamma : ℕ) (y : List ℕ) (s : ℕ) (t : Bool) (told : t ≡ all_fit r.fit y s m) where
  pub score_near : (v : ℕ) → t ≡ true → v ≡ min (sum_cost r.cost y s m) most_score → v ≡ score_in (verdict_by r m gamma y s)
  score_near v e q = q ∙ rw (← told, e) at (score_told r m gamma y s)

  pub score_far : t ≡ false → most_score ≡ score_in (verdict_by r m gamma y s)
  score_far e = rw (← told, e) at (score_told r m gamma y s)

cut_off : (b : Bool) (sum gamma : ℕ) → gamma ≤ max_gamma → leb (cond b (min sum most_score) most_score) gamma ≡ (b && leb sum gamma)
cut_off true sum gamma h =
    same_test (leb (min sum most_score) gamma) (leb sum gamma)
    (λ e. le-leb sum gamma (omega (arith, leb-true (min sum most_score) gamma e)))
    (λ e. le-leb (min sum most_score) gamma (omega (arith, leb-true sum gamma e)))
cut_off false sum gamma h = lt-leb most_score gamma (omega arith)

-- it is at most gamma exactly where the window is a place
pub score_place : (r : Rule) (m gamma : ℕ) (y : List ℕ) (s : ℕ) → s + m ≤ length y → gamma ≤ max_gamma → leb (score_in (verdict_by r m gamma y s)) gamma ≡ is_place_by r m gamma y s
unfolding is_place_by
score_place r m gamma y s inside h =
    rw (le-leb (s + m) (length y) inside, ← score_told r m gamma y s) (cut_off (all_fit r.fit y s m) (sum_cost r.cost y s m) gamma h)

-- and of a place it is the sum
pub score_sum : (r : Rule) (m gamma : ℕ) (y : List ℕ) (s : ℕ) → s + m ≤ length y → gamma ≤ max_gamma → is_place_by r m gamma y s ≡ true
    → score_in (verdict_by r m gamma y s) ≡ sum_cost r.cost y s m
unfolding score_in
score_sum r m gamma y s inside h e =
    let small = by_within r m gamma y s e in
    rw ((fits_exactly r m gamma y s inside (sum_cost r.cost y s m)).1 (e, refl)) (omega arith)

-- so a window that is noted by its score is tried
pub score_tried : (r : Rule) (m gamma : ℕ) (y : List ℕ) (s v : ℕ) {before found : Found} {entry final : Lent} → s + m ≤ length y → gamma ≤ max_gamma
    → v ≡ score_in (verdict_by r m gamma y s) → Noted (leb v gamma) v s before entry found final → Tried (sought_by r m gamma y) s before entry found final
score_tried r m gamma y s v inside h told n =
    noted_as _ _ _ _ _ _ _ (ap (λ (k : ℕ). leb k gamma) told ∙ score_place r m gamma y s inside h) (λ e. told ∙ score_sum r m gamma y s inside h e) n
