-- The whole search: what is known where nothing refuses it, and that the sums by the table tell the places. Assumes nothing.
use mathlib.Core.Path.{◌≡◌, refl, sym, ap, subst, ◌∙◌}
use mathlib.Core.Bool.{true}
use mathlib.Core.List.{List}
use Prim.Native.Nat.{ℕ, suc, min, ◌+◌, ◌-◌, ◌*◌, ◌/◌, ◌%◌, ◌^◌, ◌≤◌, ◌<◌}
use native.Mathlib.Nat.{mul-le-mul_right}
use native.Mathlib.Numerals.{add-one}
use native.Mathlib.Omega.{arith}
use lib.Pow.{pow_pos}
use lib.ListN.{length, get_or}
use Rattle.fit.specs.Reading.{highest, near}
use Rattle.fit.specs.Rule.{reading_at, sum_cost, is_place_by}
use Rattle.fit.specs.Place.{cost_of, sum_diff, Place, is_place, windows, d_of, g_of}
use Rattle.fit.specs.Refusal.{max_points, max_gamma, search_refusal, Accepted}
use Rattle.fit.specs.Answer.{sought_of, Lent, told, Answer, Answers}
use Rattle.fit.specs.declared.answer.Found.{Found}
use Rattle.fit.proofs.Laws.Bools.{same_test}
use Rattle.fit.proofs.Laws.Rules.{fit_all, sum_term, sum_same, by_is, by_inside, by_within}
use Rattle.fit.proofs.Laws.Places.{place_of, place_fits, place_test, test_place, place_down, place_up}
use Rattle.fit.proofs.Laws.Refusals.{none_exactly}
use Rattle.fit.proofs.Laws.Answers.{SameSought, answer_same}
use Rattle.limits.specs.Made.{Carries}
use Rattle.limits.specs.declared.checked.Checked.{Checked}
use Rattle.limits.proofs.Laws.Constructed.{told_d, told_g}
use Rattle.limits.proofs.Laws.Openings.{passed}
use Rattle.counters.specs.Width.{low_bits, width_of}
use Rattle.counters.specs.Word.{word_bits}
use Rattle.counters.specs.Words.{per_word, Needed, words_for}
use Rattle.counters.specs.Sound.{LaidOut}
use Rattle.counters.specs.declared.Masks.{Masks}
use Rattle.counters.proofs.Laws.Widths.{low_bits_least, room_next}
use Rattle.counters.proofs.Laws.Counts.{per_fits, some_word, rounded_up}
use Rattle.adding.specs.Costs.{added_of, with_entering}
use Rattle.adding.specs.Tables.{Room, Tabled}
use Rattle.adding.proofs.Laws.Costing.{added_near, added_fits, added_le}
use Rattle.adding.proofs.Laws.Filling.{costs_tabled}
use Rattle.scan.specs.Following.{scan_cost, Scannable, summing, sought_in}
use Rattle.words.specs.Most.{max_words}
use Rattle.packed.specs.Needs.{words_of}
use Rattle.scan.proofs.Laws.Following.{tabled_addable}
use Rattle.packed.proofs.Laws.Serving.{width_most, four_to_a_word, sixteen_serve, just_needed}

-- ---- the window at s under (d, g): its sum of additions is at most g exactly where it is a place
module _ (delta gamma : ℕ) (x y : List ℕ) (cost : ℕ → ℕ → ℕ) (s : ℕ) where
  abbrev d : ℕ
  d = d_of delta gamma

  abbrev g : ℕ
  g = g_of (length x) delta gamma

  near_sum : ((i : ℕ) → i < length x → near d (get_or x i 0) (reading_at y s i) ≡ true) → sum_cost (added_of d g x) y s (length x) ≡ sum_diff x y s
  near_sum n = sum_same (added_of d g x) (cost_of x) y s (length x) (λ i h. added_near d g (get_or x i 0) (reading_at y s i) (n i h))

  sum_near : sum_cost (added_of d g x) y s (length x) ≤ g → (i : ℕ) → i < length x → near d (get_or x i 0) (reading_at y s i) ≡ true
  sum_near l i h = added_fits d g (get_or x i 0) (reading_at y s i) (omega (arith, sum_term (added_of d g x) y s (length x) i h))

  module _ (same : sum_cost cost y s (length x) ≡ sum_cost (added_of d g x) y s (length x)) where
    summed_place : is_place_by (summing cost) (length x) g y s ≡ true → is_place delta gamma x y s ≡ true
    summed_place e =
        let sum : sum_cost (added_of d g x) y s (length x) ≤ g = omega (arith, same, by_within (summing cost) (length x) g y s e) in
        place_test delta gamma x y s
        (place_up delta gamma x y s
        (place_of d g x y s (by_inside (summing cost) (length x) g y s e) (sum_near sum) (omega (arith, near_sum (sum_near sum)))))

    place_summed : is_place delta gamma x y s ≡ true → is_place_by (summing cost) (length x) g y s ≡ true
    place_summed e =
        let p : Place d g x y s = place_down delta gamma x y s (test_place delta gamma x y s e) in
        by_is (summing cost) (length x) g y s p.inside (fit_all (λ i a. true) y s (length x) (λ i h. refl))
        (omega (arith, same, near_sum (place_fits d g x y s p), p.within))

    -- and of a place it is the sum of the differences
    pub summed_sum : is_place_by (summing cost) (length x) g y s ≡ true → sum_cost cost y s (length x) ≡ sum_diff x y s
    summed_sum e = same ∙ near_sum (sum_near (omega (arith, same, by_within (summing cost) (length x) g y s e)))

    pub sums_tell : is_place_by (summing cost) (length x) g y s ≡ is_place delta gamma x y s
    sums_tell = same_test _ _ summed_place place_summed

-- ---- what is known where nothing refuses the search
pub record Open (delta gamma : ℕ) (x y : List ℕ) (d g b : ℕ) : Type 0 where
  pub ok : Accepted delta gamma x y
  pub d_is : d ≡ d_of delta gamma
  pub g_is : g ≡ g_of (length x) delta gamma
  pub b_is : b ≡ low_bits g

-- what the checked input tells
pub opened : (delta gamma : ℕ) (x y : List ℕ) {q : Checked} {d g b : ℕ} → (search_refusal delta gamma x y ≡ 0) × Carries delta gamma x q
    → d ≡ d_of q.tolerance.delta q.tolerance.gamma → g ≡ g_of (length x) q.tolerance.delta q.tolerance.gamma
    → (b ≡ low_bits g) × (b ≤ 32) → Open delta gamma x y d g b
opened delta gamma x y asked ed eg eb =
    let at = passed delta gamma x y asked in
    record { ok = at.ok; d_is = told_d delta gamma x at.carries ed; g_is = told_g delta gamma x at.carries (length x) eg; b_is = eb.0 }

-- and with it the masks, as the code lays them out for g in a wider type, and the words, which it counts by a division that rounds up
pub record Underway (delta gamma : ℕ) (x y : List ℕ) (d g b : ℕ) (k : Masks) (used : ℕ) : Type 0 where
  pub known : Open delta gamma x y d g b
  pub laid : LaidOut b (word_bits / (b + 1)) g k
  pub used_is : used ≡ (length x + (k.per - 1)) / k.per

pub underway : {delta gamma : ℕ} {x y : List ℕ} {d g b wide : ℕ} {k : Masks} {used : ℕ} → Open delta gamma x y d g b → wide ≡ g
    → LaidOut b (word_bits / (b + 1)) wide k → used ≡ length x / k.per + min 1 (length x % k.per) → Underway delta gamma x y d g b k used
underway {x = x} {k = k} o e laid u =
    record { known = o; laid = rw e at laid; used_is = u ∙ rounded_up k.per (length x) laid.sound.some o.ok.asked.some }

module _ (delta gamma : ℕ) (x y : List ℕ) (d g b : ℕ) (o : Open delta gamma x y d g b) where
  d_le_g : d ≤ g
  d_le_g = omega (arith, o.d_is, o.g_is, mul-le-mul_right (d_of delta gamma) o.ok.asked.some)

  g_small : g ≤ max_gamma
  g_small = omega (arith, o.g_is, o.ok.asked.gamma_small)

  room : g < 2 ^ b
  room = rw o.b_is (low_bits_least g).room

  -- the code's width, and how many counters it puts in a word
  width_is : b + 1 ≡ width_of (g_of (length x) delta gamma)
  width_is = rw (add-one, o.b_is, o.g_is)

  pub narrow : b + 1 ≤ 15
  narrow = rw (add-one, o.b_is) (width_most g g_small)

  some_to_a_word : 4 ≤ word_bits / (b + 1)
  some_to_a_word = rw (add-one, o.b_is) (four_to_a_word g g_small)

  pub may_lay_out : (1 ≤ word_bits / (b + 1)) × (b < 63) × (suc b * (word_bits / (b + 1)) ≤ word_bits) × (g < 2 ^ b)
  may_lay_out = (omega (arith, some_to_a_word), omega (arith, narrow), rw (← (add-one b)) (per_fits (b + 1)), room)

  module _ (k : Masks) (laid : LaidOut b (word_bits / (b + 1)) g k) where
    per_is : k.per ≡ per_word (width_of (g_of (length x) delta gamma))
    per_is = laid.per_is ∙ ap per_word width_is

    module _ (used : ℕ) (u : used ≡ (length x + (k.per - 1)) / k.per) where
      used_is : used ≡ words_of delta gamma (length x)
      used_is = u ∙ ap (λ (n : ℕ). words_for n (length x)) per_is

      needed : Needed k.per (length x) used
      needed = rw (per_is, used_is) (just_needed delta gamma x o.ok.asked)

      pub few_words : used ≤ max_words
      few_words = rw used_is (sixteen_serve delta gamma x o.ok.asked)

      pub may_add : (Room (b + 1) k.per d g × (k.enter + (g + 1) < 2 ^ (b + 1)) × (1 ≤ k.per) × (1 ≤ length x))
          × ((1 ≤ used) × (used ≤ max_points) × (suc highest * used ≤ 4096))
      may_add = (
        (
          record {
            some = omega arith;
            narrow = omega (arith, narrow);
            fit = rw laid.per_is (per_fits (b + 1));
            each_small = d_le_g;
            sum_small = omega (arith, g_small);
            top = room_next g b room;
          },
          rw (add-one b) (omega (arith, rw (laid.b_is, laid.g_is) at laid.sound.start, pow_pos b)),
          laid.sound.some,
          o.ok.asked.some,
        ),
        (some_word k.per (length x) laid.sound.some used o.ok.asked.some needed, omega (arith, few_words), omega (arith, few_words)),
      )

      -- the table that was built
      module _ (t : List ℕ) (tabled : Tabled (b + 1) k.per used (length x) (with_entering k.enter (added_of d g x)) t) where
        by_masks : Tabled (suc k.b) k.per used (length x) (with_entering k.enter (added_of d g x)) t
        by_masks = rw (laid.b_is, ← (add-one b)) tabled

        pub may_scan : Scannable k (length x) used t y
        may_scan = record {
          sound = laid.sound;
          some = o.ok.asked.some;
          needed = needed;
          addable = tabled_addable k.b k.g k.enter k.per used (length x) (added_of d g x) t laid.sound.start laid.sound.some
              o.ok.asked.some needed.enough by_masks (λ i a. rw laid.g_is (added_le d g (get_or x i 0) a d_le_g));
          short = o.ok.short;
          g_small = omega (arith, laid.g_is, g_small);
        }

        module _ (bytes : (j : ℕ) → get_or y j 0 < 256) where
          table_sum : (s : ℕ) → sum_cost (scan_cost k used t) y s (length x) ≡ sum_cost (added_of d g x) y s (length x)
          table_sum s =
              sum_same (scan_cost k used t) (added_of d g x) y s (length x)
              (λ i h. costs_tabled (suc k.b) k.per k.enter used (length x) (added_of d g x) t by_masks needed.enough i (reading_at y s i) h (bytes (s + i)))

          -- the masks' bound is the search's
          bound_is : k.g ≡ g_of (length x) delta gamma
          bound_is = laid.g_is ∙ o.g_is

          same_test_at : (s : ℕ) → (sought_in k (length x) used t y).place s ≡ is_place delta gamma x y s
          same_test_at s =
              subst (λ (g' : ℕ). is_place_by (summing (scan_cost k used t)) (length x) g' y s ≡ is_place delta gamma x y s) (sym bound_is)
              (sums_tell delta gamma x y (scan_cost k used t) s (rw (o.d_is, o.g_is) at (table_sum s)))

          same_sum_at : (s : ℕ) → (sought_in k (length x) used t y).place s ≡ true → (sought_in k (length x) used t y).sum s ≡ sum_diff x y s
          same_sum_at s e =
              summed_sum delta gamma x y (scan_cost k used t) s (rw (o.d_is, o.g_is) at (table_sum s))
              (subst (λ (g' : ℕ). is_place_by (summing (scan_cost k used t)) (length x) g' y s ≡ true) bound_is e)

          same_sought : SameSought (sought_in k (length x) used t y) (sought_of delta gamma x y)
          same_sought = record { same_count = refl; same_place = same_test_at; same_sum = same_sum_at }

          pub answered : {entry final : Lent} {r : Found} → Answer 0 (sought_in k (length x) used t y) (windows (length x) (length y)) entry (told r) final
              → Answers delta gamma x y (windows (length x) (length y)) entry (told r) final
          answered {entry} a = rw ((none_exactly delta gamma x y).1 o.ok) (answer_same _ _ same_sought 0 _ entry a)
