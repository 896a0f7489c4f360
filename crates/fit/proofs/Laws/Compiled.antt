-- Laws of spans: what the compiling loop lays, and that the numbers ask what the profile's rule asks. Assumes nothing.
use mathlib.Core.Path.{◌≡◌, refl, sym, ap, ap₂, ◌∙◌}
use mathlib.Core.Bool.{true, ◌&&◌}
use mathlib.Core.List.{List, [], ◌∷◌, ◌++◌, map, map-append}
use Prim.Native.Nat.{ℕ, zero, suc, ◌+◌, ◌-◌, ◌*◌, ◌≤◌, ◌<◌, max}
use native.Mathlib.Nat.{zero-add, suc-add, not-suc-le-zero, le_of_suc-le-suc}
use native.Mathlib.Numerals.{add-one}
use native.Mathlib.Omega.{arith}
use lib.ListN.{length, take, set, get_or, replicate, length-set, length-map, length-replicate, get_or-append}
use lib.Seq.{take-suc, length-take-le, get_or-append-add, set-append_left}
use lib.Dec.{leb, eqb}
use borrow.Author.Tests.{leb-true, le-leb, eqb-true, eq-eqb}
use Rattle.fit.specs.Reading.{lowest, near}
use Rattle.fit.specs.Rule.{SameRule, reading_at, sum_cost, is_place_by}
use Rattle.fit.specs.Place.{fit_of, cost_of, rule_of, sum_diff, Place, d_of}
use Rattle.fit.specs.Verdict.{verdict_by, verdict_of}
use Rattle.fit.specs.Listing.{overlay}
use Rattle.fit.specs.Refusal.{max_points, Accepted}
use Rattle.fit.specs.Spans.{span_fits, span_cost, rule_in, row, rows, spans_of, Ready}
use Rattle.fit.specs.Answer.{sought_by, sought_of, Lent, Answer, Answers}
use Rattle.fit.specs.declared.answer.Search.{Search}
use Rattle.fit.proofs.Laws.Bools.{and_left, and_right, and_both, same_test}
use Rattle.fit.proofs.Laws.Readings.{near_le, near_lowest, le_near}
use Rattle.fit.proofs.Laws.Rules.{sum_same, same_place}
use Rattle.fit.proofs.Laws.Places.{by_place, by_derived}
use Rattle.fit.proofs.Laws.Verdicts.{same_verdict, verdict_derived}
use Rattle.fit.proofs.Laws.Refusals.{none_exactly}
use Rattle.fit.proofs.Laws.Answers.{same_sought}
use Rattle.fit.proofs.Laws.Listings.{overlay_more, length_overlay, overlay_at}

-- ---- two lists, one behind the other: an entry of the second is read, and written
behind_at : (a b : List ℕ) (n i : ℕ) → length a ≡ n → get_or (a ++ b) (n + i) 0 ≡ get_or b i 0
behind_at a b n i e = rw (← e) (get_or-append-add a b i 0)

behind_set : (a b : List ℕ) (n i v : ℕ) → length a ≡ n → set (a ++ b) (n + i) v ≡ a ++ set b i v
behind_set a b n i v e = rw (← e) (there a)
  where
    there : (l : List ℕ) → set (l ++ b) (length l + i) v ≡ l ++ set b i v
    there [] = rw zero-add
    there (p ∷ l) = rw suc-add (ap (λ (k : List ℕ). p ∷ k) (there l))

-- an entry written behind what is laid
laid_behind : (ps entry : List ℕ) (k v : ℕ) → length ps ≡ k → set (overlay ps entry) k v ≡ overlay (ps ++ (v ∷ [])) entry
laid_behind ps entry k v e = rw (← e) (overlay_more ps entry v)

-- ---- a row
length_row : {A : Type 0} (say : A → ℕ) (x : List A) → length (row say x) ≡ max_points
length_row say x = length_overlay (map say x) (replicate max_points 0) ∙ length-replicate {A = ℕ} max_points 0

module _ {A : Type 0} (say : A → ℕ) (none : A) where
  -- what is said of the point behind the first i
  row_next : (x : List A) (i v : ℕ) → i < length x → v ≡ say (get_or x i none) → set (row say (take i x)) i v ≡ row say (take (i + 1) x)
  row_next x i v h e =
      let long : length (map say (take i x)) ≡ i = length-map (take i x) say ∙ length-take-le i x (omega arith) in
      let more : take (i + 1) x ≡ take i x ++ (get_or x i none ∷ []) = rw (add-one i) (take-suc x i none h) in
      let said : map say (take (i + 1) x) ≡ map say (take i x) ++ (v ∷ []) = rw (more, e) (map-append say (take i x) (get_or x i none ∷ [])) in
      rw said (laid_behind (map say (take i x)) (replicate max_points 0) i v long)

  said_at : (x : List A) (i : ℕ) → i < length x → get_or (map say x) i 0 ≡ say (get_or x i none)
  said_at [] i h = absurd (not-suc-le-zero h)
  said_at (p ∷ x) zero h = refl
  said_at (p ∷ x) (suc i) h = said_at x i (le_of_suc-le-suc h)

  row_at : (x : List A) (i : ℕ) → length x ≤ max_points → i < length x → get_or (row say x) i 0 ≡ say (get_or x i none)
  row_at x i few h =
      overlay_at (map say x) (replicate max_points 0) i (omega (arith, length-map x say)) (omega (arith, length-map x say, length-replicate {A = ℕ} max_points 0))
      ∙ said_at x i h

-- ---- four rows: an entry of each
module _ {A : Type 0} (low high from to : A → ℕ) (x : List A) (i : ℕ) (h : i < max_points) where
  first_at : get_or (rows low high from to x) i 0 ≡ get_or (row low x) i 0
  first_at = get_or-append (row low x) (row high x ++ (row from x ++ row to x)) 0 i (omega (arith, length_row low x))

  second_at : get_or (rows low high from to x) (max_points + i) 0 ≡ get_or (row high x) i 0
  second_at =
      behind_at (row low x) (row high x ++ (row from x ++ row to x)) max_points i (length_row low x)
      ∙ get_or-append (row high x) (row from x ++ row to x) 0 i (omega (arith, length_row high x))

  third_at : get_or (rows low high from to x) (2 * max_points + i) 0 ≡ get_or (row from x) i 0
  third_at =
      let e : 2 * max_points + i ≡ max_points + (max_points + i) = omega arith in
      rw e (behind_at (row low x) (row high x ++ (row from x ++ row to x)) max_points (max_points + i) (length_row low x)
      ∙ behind_at (row high x) (row from x ++ row to x) max_points i (length_row high x)
      ∙ get_or-append (row from x) (row to x) 0 i (omega (arith, length_row from x)))

  fourth_at : get_or (rows low high from to x) (3 * max_points + i) 0 ≡ get_or (row to x) i 0
  fourth_at =
      let e : 3 * max_points + i ≡ max_points + (max_points + (max_points + i)) = omega arith in
      rw e (behind_at (row low x) (row high x ++ (row from x ++ row to x)) max_points (max_points + (max_points + i)) (length_row low x)
      ∙ behind_at (row high x) (row from x ++ row to x) max_points (max_points + i) (length_row high x)
      ∙ behind_at (row from x) (row to x) max_points i (length_row from x))

-- one entry written in each of four lists
four_set : (a b c d : List ℕ) (i u v w z : ℕ) → length a ≡ max_points → length b ≡ max_points → length c ≡ max_points → i < max_points
    → set (set (set (set (a ++ (b ++ (c ++ d))) i u) (max_points + i) v) (2 * max_points + i) w) (3 * max_points + i) z
    ≡ set a i u ++ (set b i v ++ (set c i w ++ set d i z))
four_set a b c d i u v w z la lb lc h =
    let a' = set a i u in
    let b' = set b i v in
    let c' = set c i w in
    let la' = length-set a i u ∙ la in
    let lb' = length-set b i v ∙ lb in
    let e2 : 2 * max_points + i ≡ max_points + (max_points + i) = omega arith in
    let e3 : 3 * max_points + i ≡ max_points + (max_points + (max_points + i)) = omega arith in
    let first = set-append_left a (b ++ (c ++ d)) i u (omega (arith, la)) in
    let second = behind_set a' (b ++ (c ++ d)) max_points i v la' ∙ ap (λ (l : List ℕ). a' ++ l) (set-append_left b (c ++ d) i v (omega (arith, lb))) in
    let third = behind_set a' (b' ++ (c ++ d)) max_points (max_points + i) w la'
    ∙ ap (λ (l : List ℕ). a' ++ l) (behind_set b' (c ++ d) max_points i w lb')
    ∙ ap (λ (l : List ℕ). a' ++ (b' ++ l)) (set-append_left c d i w (omega (arith, lc))) in
    let fourth = behind_set a' (b' ++ (c' ++ d)) max_points (max_points + (max_points + i)) z la'
    ∙ ap (λ (l : List ℕ). a' ++ l) (behind_set b' (c' ++ d) max_points (max_points + i) z lb')
    ∙ ap (λ (l : List ℕ). a' ++ (b' ++ l)) (behind_set c' d max_points i z (length-set c i w ∙ lc)) in
    rw (first, second, e2, third, e3) fourth

module _ {A : Type 0} (low high from to : A → ℕ) (none : A) (x : List A) where
  -- ---- the loop that lays them: no point is laid, and the point behind the first i
  pub rows_none : replicate (4 * max_points) 0 ≡ rows low high from to (take 0 x)
  unfolding overlay
  rows_none = refl

  pub rows_next : (held : List ℕ) (i u v w z : ℕ) → i < length x → i < max_points → held ≡ rows low high from to (take i x)
      → u ≡ low (get_or x i none) → v ≡ high (get_or x i none) → w ≡ from (get_or x i none) → z ≡ to (get_or x i none)
      → set (set (set (set held i u) (max_points + i) v) (2 * max_points + i) w) (3 * max_points + i) z ≡ rows low high from to (take (i + 1) x)
  rows_next held i u v w z h few q eu ev ew ez =
      let before = take i x in
      rw (q, ← row_next low none x i u h eu, ← row_next high none x i v h ev, ← row_next from none x i w h ew, ← row_next to none x i z h ez)
      (four_set (row low before) (row high before) (row from before) (row to before) i u v w z
      (length_row low before) (length_row high before) (length_row from before) few)

  -- ---- the rule that they say, at point i
  module _ (few : length x ≤ max_points) (i a : ℕ) (h : i < length x) where
    pub rows_fit : (rule_in (rows low high from to x)).fit i a ≡ span_fits (low (get_or x i none)) (high (get_or x i none)) a
    rows_fit =
        ap₂ (λ (l k : ℕ). span_fits l k a) (first_at low high from to x i (omega arith) ∙ row_at low none x i few h)
        (second_at low high from to x i (omega arith) ∙ row_at high none x i few h)

    pub rows_cost : (rule_in (rows low high from to x)).cost i a ≡ span_cost (from (get_or x i none)) (to (get_or x i none)) a
    rows_cost =
        ap₂ (λ (l k : ℕ). span_cost l k a) (third_at low high from to x i (omega arith) ∙ row_at from none x i few h)
        (fourth_at low high from to x i (omega arith) ∙ row_at to none x i few h)

-- ---- one test for both ends: a reading lies between them where it lies nothing outside
pub in_is : (low high a v : ℕ) → v ≡ span_cost low high a → eqb v 0 ≡ span_fits low high a
in_is low high a v e =
    same_test (eqb v 0) (leb low a && leb a high)
    (λ t. let z : v ≡ 0 = eqb-true v 0 t in
    and_both (leb low a) (leb a high) (le-leb low a (omega arith)) (le-leb a high (omega arith)))
    (λ t. let l = leb-true low a (and_left (leb low a) (leb a high) t) in
    let h = leb-true a high (and_right (leb low a) (leb a high) t) in
    eq-eqb v 0 (omega arith))

-- ---- the numbers ask what the points ask
pub span_near : (delta p a : ℕ) → span_fits (max lowest (p - delta)) (p + delta) a ≡ near delta p a
span_near delta p a =
    same_test (leb (max lowest (p - delta)) a && leb a (p + delta)) (near delta p a)
    (λ t. let l = leb-true (max lowest (p - delta)) a (and_left (leb (max lowest (p - delta)) a) (leb a (p + delta)) t) in
    let h = leb-true a (p + delta) (and_right (leb (max lowest (p - delta)) a) (leb a (p + delta)) t) in
    le_near delta p a (omega (arith, l)) (omega (arith, l, h)))
    (λ t. and_both (leb (max lowest (p - delta)) a) (leb a (p + delta))
    (le-leb (max lowest (p - delta)) a (omega (arith, near_le delta p a t, near_lowest delta p a t)))
    (le-leb a (p + delta) (omega (arith, near_le delta p a t))))

pub spans_none : (delta : ℕ) (x : List ℕ) → replicate (4 * max_points) 0 ≡ spans_of delta (take 0 x)
spans_none delta x = rows_none (λ p. max lowest (p - delta)) (λ p. p + delta) (λ p. p) (λ p. p) 0 x

span_cost_lem : (delta : ℕ) (x : List ℕ) → length x ≤ max_points → (i a : ℕ) → i < length x → (rule_in (spans_of delta x)).cost i a ≡ cost_of x i a
span_cost_lem delta x few i a l = rows_cost (λ p. max lowest (p - delta)) (λ p. p + delta) (λ p. p) (λ p. p) 0 x few i a l

same_rule : (delta : ℕ) (x : List ℕ) → length x ≤ max_points → SameRule (length x) (rule_in (spans_of delta x)) (rule_of delta x)
same_rule delta x few = record {
  same_fit =
      λ i a l. rows_fit (λ p. max lowest (p - delta)) (λ p. p + delta) (λ p. p) (λ p. p) 0 x few i a l ∙ span_near delta (get_or x i 0) a;
  same_cost = λ i a l e. span_cost_lem delta x few i a l;
}

-- ---- a profile that is compiled: the rule of its numbers asks what the profile's does
module _ (delta gamma : ℕ) (x spans : List ℕ) (made : spans ≡ spans_of (d_of delta gamma) x) (few : length x ≤ max_points) where
  compiled_rule : SameRule (length x) (rule_in spans) (rule_of (d_of delta gamma) x)
  compiled_rule = rw made (same_rule (d_of delta gamma) x few)

  pub compiled_near : (i a : ℕ) → i < length x → (rule_in spans).fit i a ≡ fit_of (d_of delta gamma) x i a
  compiled_near = compiled_rule.same_fit

  compiled_by : (y : List ℕ) (t : ℕ) → is_place_by (rule_in spans) (length x) gamma y t ≡ is_place_by (rule_of delta x) (length x) gamma y t
  compiled_by y t = same_place (length x) (rule_in spans) (rule_of (d_of delta gamma) x) compiled_rule gamma y t ∙ by_derived delta gamma x y t

  -- every window has the profile's sum, a place or not
  compiled_sum : (y : List ℕ) (s : ℕ) → sum_cost (rule_in spans).cost y s (length x) ≡ sum_diff x y s
  compiled_sum y s = sum_same (rule_in spans).cost (cost_of x) y s (length x) (λ i l. rw made (span_cost_lem (d_of delta gamma) x few i (reading_at y s i) l))

  pub compiled_place : (y : List ℕ) (t : ℕ) → is_place_by (rule_in spans) (length x) gamma y t ≡ true → Place delta gamma x y t
  compiled_place y t e = by_place delta gamma x y t (sym (compiled_by y t) ∙ e)

  pub compiled_verdict : (y : List ℕ) (s : ℕ) → verdict_by (rule_in spans) (length x) gamma y s ≡ verdict_of delta gamma x y s
  compiled_verdict y s = same_verdict (length x) (rule_in spans) (rule_of (d_of delta gamma) x) compiled_rule gamma y s ∙ verdict_derived delta gamma x y s

-- a search that is accepted is ready to go over its spans, and what it answers there is its answer
pub ready : (delta gamma : ℕ) (x y : List ℕ) → Accepted delta gamma x y → Ready (length x) gamma (length y)
ready delta gamma x y ok = record { some = ok.asked.some; few = ok.asked.few; gamma_small = ok.asked.gamma_small; short = ok.short }

module _ (delta gamma : ℕ) (x y spans : List ℕ) (made : spans ≡ spans_of (d_of delta gamma) x) (ok : Accepted delta gamma x y) where
  pub compiled_sought : sought_by (rule_in spans) (length x) gamma y ≡ sought_of delta gamma x y
  compiled_sought =
      same_sought (rule_in spans) delta gamma x y (compiled_by delta gamma x spans made ok.asked.few y) (compiled_sum delta gamma x spans made ok.asked.few y)

  pub compiled_answer_lem : (tried tried' : ℕ) {entry final : Lent} {r : Search} → tried ≡ tried'
      → Answer 0 (sought_by (rule_in spans) (length x) gamma y) tried entry r final → Answers delta gamma x y tried' entry r final
  compiled_answer_lem tried tried' e a = rw ((none_exactly delta gamma x y).1 ok, ← e, ← compiled_sought) a
