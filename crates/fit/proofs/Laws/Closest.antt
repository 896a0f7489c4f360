-- What the sums of an answer say, and its least: which of several places is the closest. Assumes nothing.
use mathlib.Core.Path.{◌≡◌, sym, ◌∙◌}
use mathlib.Core.Bool.{true}
use mathlib.Core.Logic.{◌⊎◌, inl, inr, ⊎_elim, ◌↔◌}
use mathlib.Core.List.Memᴰ
use mathlib.Core.List.{List, map, Memᴰ}
use Prim.Native.Nat.{ℕ, ◌≤◌, ◌<◌}
use native.Mathlib.Omega.{arith}
use lib.ListN.{length, get_or, length-map}
use Rattle.fit.specs.Place.{sum_diff, Place}
use Rattle.fit.specs.Answer.{Sought, sought_of, all, Lent, Answer}
use Rattle.fit.specs.declared.answer.Search.{Search}
use Rattle.fit.proofs.Laws.Sums.{sums_beside, least_each, least_one, least_zero}
use Rattle.fit.proofs.Laws.Risings.{in_up, up_in}
use Rattle.fit.proofs.Laws.Places.{place_below, place_test, test_place}
use Rattle.fit.proofs.Laws.Answers.{Done, answer_done}

-- ---- whatever is sought: an answer that is not refused
-- a place with such a sum
abbrev pub PlaceOf : Sought → ℕ → Type 0
PlaceOf t v = (s : ℕ) × (s < t.count) × (t.place s ≡ true) × (t.sum s ≡ v)

module _ (t : Sought) (tried : ℕ) (entry final : Lent) (r : Search) (done : Done t tried entry r final) where
  -- "the places' sums in the same order": entry k of the sums is the sum of the place that is entry k of the list
  pub sums_in_order : (k : ℕ) → k < r.total → k < length entry.list → k < length entry.sums → get_or final.sums k 0 ≡ t.sum (get_or final.list k 0)
  sums_in_order k h l m = rw (done.sums, done.list) (sums_beside t.sum (all t) entry.list entry.sums k (rw (← done.total) h) l m)

  -- "the least sum over all places", listed or not: none has less
  pub least_of_all : (s : ℕ) → s < t.count → t.place s ≡ true → r.least ≤ t.sum s
  least_of_all s h e = rw done.least (least_each (map t.sum (all t)) (Memᴰ.map t.sum (up_in t.place t.count s h e)))

  having : (v : ℕ) → Memᴰ v (map t.sum (all t)) → PlaceOf t v
  having v m =
      let found = Memᴰ.of_map t.sum (all t) m in
      let at = in_up t.place t.count found.1 in
      (found.0, at.0, at.1, found.2)

  sums_count : length (map t.sum (all t)) ≡ r.total
  sums_count = length-map (all t) t.sum ∙ sym done.total

  -- and where there is a place, one has that sum
  pub least_of_one : 1 ≤ r.total → PlaceOf t r.least
  least_of_one h = rw done.least (having _ (least_one (map t.sum (all t)) (omega (arith, sums_count))))

  -- "0 when there are none"; but also where one is a perfect fit: the total tells the two apart
  pub least_zero_exactly : (r.least ≡ 0) ↔ ((r.total ≡ 0) ⊎ PlaceOf t 0)
  least_zero_exactly =
      let zero_is = least_zero (map t.sum (all t)) in (
        λ e. ⊎_elim (λ n. inl (sym sums_count ∙ n)) (λ m. inr (having 0 m)) (zero_is.0 (sym done.least ∙ e)),
        λ h. ⊎_elim (λ n. done.least ∙ zero_is.1 (inl (sums_count ∙ n)))
            (λ p. omega (arith, least_of_all p.0 p.1 p.2, p.3)) h,
      )

-- ---- an ordinary profile: the answer of any searcher, by whatever number, that is not refused
module _ (delta gamma : ℕ) (x y : List ℕ) (num tried : ℕ) (entry final : Lent) (r : Search)
    (a : Answer num (sought_of delta gamma x y) tried entry r final) (z : r.refusal ≡ 0) where
  given : Done (sought_of delta gamma x y) tried entry r final
  given = answer_done num _ tried entry r final a z

  pub no_place_closer : (s : ℕ) → Place delta gamma x y s → r.least ≤ sum_diff x y s
  no_place_closer s p = least_of_all _ tried entry final r given s (place_below delta gamma x y s p) (place_test delta gamma x y s p)

  pub closest_place : 1 ≤ r.total → (s : ℕ) × Place delta gamma x y s × (sum_diff x y s ≡ r.least)
  closest_place h = let c = least_of_one _ tried entry final r given h in (c.0, test_place delta gamma x y c.0 c.2, c.3)

  pub perfect_or_none : (r.least ≡ 0) ↔ ((r.total ≡ 0) ⊎ ((s : ℕ) × Place delta gamma x y s × (sum_diff x y s ≡ 0)))
  perfect_or_none =
      let exactly = least_zero_exactly _ tried entry final r given in (
        λ e. ⊎_elim (λ n. inl n) (λ p. inr (p.0, test_place delta gamma x y p.0 p.2, p.3)) (exactly.0 e),
        λ h. exactly.1
            (⊎_elim (λ n. inl n) (λ p. inr (p.0, place_below delta gamma x y p.0 p.1, place_test delta gamma x y p.0 p.1, p.2)) h),
      )
