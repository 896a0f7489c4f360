-- The words over the readings: they follow the separate sums, and the top bit of the last point's counter tells whether a window is a place.
-- Assumes nothing.
use mathlib.Core.Path.{◌≡◌, refl, sym, ap, ◌∙◌}
use mathlib.Core.Bool.{true}
use mathlib.Core.List.{List}
use Prim.Native.Nat.{ℕ, zero, suc, ◌+◌, ◌-◌, ◌*◌, ◌/◌, ◌%◌, ◌^◌, ◌≤◌, ◌<◌}
use native.Mathlib.Nat.{add-suc, mul-le-mul_left}
use native.Mathlib.Numerals.{add-one}
use native.Mathlib.Omega.{arith}
use lib.Arith.{digits_lt}
use lib.Pow.{pow_pos}
use lib.ListN.{length, get_or, replicate, get_or-replicate}
use lib.Bits.{bit_and}
use lib.Dec.{eqb}
use borrow.Author.Tests.{eqb-true, eq-eqb}
use Rattle.fit.specs.Reading.{highest}
use Rattle.fit.specs.Rule.{reading_at, sum_cost}
use Rattle.fit.proofs.Laws.Bools.{same_test}
use Rattle.fit.proofs.Laws.Rules.{fit_all, sum_none, sum_more, by_is, by_within}
use Rattle.counters.specs.Word.{word_bits, counter}
use Rattle.counters.specs.Sums.{Stands, moved, grown}
use Rattle.counters.specs.Words.{Needed, across, SmallAcross, TurnedAcross}
use Rattle.counters.specs.Sound.{Sound}
use Rattle.counters.specs.declared.Masks.{Masks}
use Rattle.counters.proofs.Laws.Widths.{one_shifted}
use Rattle.counters.proofs.Laws.Ends.{moved_first, moved_next, stepped_is, entering_first, entering_le, enters, all_above, clear_exactly}
use Rattle.counters.proofs.Laws.Counts.{last_word}
use Rattle.counters.proofs.Laws.Across.{across_is, across_at, laid_across, agrees_across}
use Rattle.counters.proofs.Laws.Firm.{no_second_words}
use Rattle.adding.specs.Costs.{added_of, with_entering}
use Rattle.adding.specs.Tables.{row_of, padded, Tabled}
use Rattle.adding.proofs.Laws.Costing.{added_zero}
use Rattle.adding.proofs.Laws.Filling.{padded_below, padded_small, row_length}
use Rattle.scan.specs.Separate.{after}
use Rattle.scan.specs.Following.{Addable, scan_cost, held, Follows, summing, sought_in}

-- ---- the separate sums
module _ (g : ℕ) (cost : ℕ → ℕ → ℕ) (y : List ℕ) where
  after_first : (j : ℕ) → after g cost y (suc j) 0 ≡ cost 0 (get_or y j 0)
  unfolding after
  after_first j =
      stepped_is (λ p. cost p (get_or y j 0)) 0 (after g cost y j) 0 ∙ ap (λ (n : ℕ). n + cost 0 (get_or y j 0)) (moved_first 0 (after g cost y j)) ∙ omega arith

  after_next : (j i : ℕ) → after g cost y (suc j) (suc i) ≡ after g cost y j i + cost (suc i) (get_or y j 0)
  unfolding after
  after_next j i =
      stepped_is (λ p. cost p (get_or y j 0)) 0 (after g cost y j) (suc i)
      ∙ ap (λ (n : ℕ). n + cost (suc i) (get_or y j 0)) (moved_next 0 (after g cost y j) i)

  -- at the reading that a window has at point i, the sum there is the window's, over its first i + 1 points
  pub sum_is : (i s : ℕ) → after g cost y (suc (s + i)) i ≡ sum_cost cost y s (i + 1)
  sum_is zero s = after_first (s + 0) ∙ sym (sum_more cost y s 0 ∙ ap (λ (n : ℕ). n + cost 0 (reading_at y s 0)) (sum_none cost y s) ∙ omega arith)
  sum_is (suc i) s =
      after_next (s + suc i) i
      ∙ ap (λ (n : ℕ). n + cost (suc i) (reading_at y s (suc i))) (ap (λ (j : ℕ). after g cost y j i) (add-suc s i) ∙ sum_is i s ∙ ap (sum_cost cost y s) (add-one i))
      ∙ sym (sum_more cost y s (suc i))

  -- before i + 1 readings the sum at point i is above g: no place is found before m readings
  pub early : (j i : ℕ) → j ≤ i → g < after g cost y j i
  unfolding after
  early zero i h = omega arith
  early (suc j) zero h = absurd (omega arith)
  early (suc j) (suc i) h = omega (arith, after_next j i, early j i (omega arith))

-- after a reading of 0 every separate sum is above g
pub zero_above : (d g : ℕ) (x y : List ℕ) (j i : ℕ) → get_or y j 0 ≡ 0 → g < after g (added_of d g x) y (suc j) i
zero_above d g x y j zero e = omega (arith, after_first g (added_of d g x) y j, added_zero d g (get_or x 0 0) (get_or y j 0) e)
zero_above d g x y j (suc i) e = omega (arith, after_next g (added_of d g x) y j i, added_zero d g (get_or x (suc i) 0) (get_or y j 0) e)

-- ---- the words
module _ (k : Masks) (ok : Sound k) where
  -- where a counter begins, and its top bit alone
  module _ (at : ℕ) (h : at < k.per) where
    pub counter_inside : (k.b + 1) * at + k.b < word_bits
    counter_inside = let below : suc k.b * suc at ≤ suc k.b * k.per = mul-le-mul_left (suc k.b) h in omega (arith, below, ok.fit)

    pub top_shifted : (1 * 2 ^ ((k.b + 1) * at + k.b)) % 2 ^ 64 ≡ 2 ^ (suc k.b * at + k.b)
    top_shifted = one_shifted ((k.b + 1) * at + k.b) (omega (arith, counter_inside)) ∙ ap (λ (l : ℕ). 2 ^ (l * at + k.b)) (add-one k.b)

  -- the machine's `1 << width`, by which the counters above are taken off, and what is left
  width_shifted : (1 * 2 ^ (k.b + 1)) % 2 ^ 64 ≡ 2 ^ suc k.b
  width_shifted = one_shifted (k.b + 1) (omega (arith, ok.narrow)) ∙ ap (λ (l : ℕ). 2 ^ l) (add-one k.b)

  pub width_some : 0 < (1 * 2 ^ (k.b + 1)) % 2 ^ 64
  width_some = rw width_shifted (pow_pos (suc k.b))

  pub value_is : (word at : ℕ) → word / 2 ^ ((k.b + 1) * at) % ((1 * 2 ^ (k.b + 1)) % 2 ^ 64) ≡ counter (suc k.b) word at
  unfolding counter
  value_is word at = rw (width_shifted, add-one k.b)

module _ (k : Masks) (ok : Sound k) (used : ℕ) (t y : List ℕ) where
  abbrev cost : ℕ → ℕ → ℕ
  cost = scan_cost k used t

  pub follows_start : (words : List ℕ) → length words ≡ used → words ≡ replicate used k.top → Follows k used t y words 0
  unfolding held
  follows_start words long e = record {
    long = long;
    laid = laid_across (suc k.b) k.per ok.some words (held k used t y 0) (λ j h. rw (top j h) ok.tops);
    agrees = agrees_across k.b k.g k.per ok.some words (after k.g cost y 0)
        (λ j h. rw (top j h) (all_above k.b k.g k.per k.top _ ok.tops (λ i _. early k.g cost y 0 (j * k.per + i) (omega arith))));
  }
    where
      top : (j : ℕ) → j < length words → get_or words j 0 ≡ k.top
      top j h = ap (λ (ws : List ℕ). get_or ws j 0) e ∙ get_or-replicate used j k.top 0 (rw (← long) h)

  pub follows_more : (words : List ℕ) (j : ℕ) (next : List ℕ) → Follows k used t y words j
      → TurnedAcross k.b k.g k.per words k.enter (λ i. cost i (get_or y j 0)) next → Follows k used t y next (j + 1)
  unfolding after held
  follows_more words j next f turn =
      rw add-one (record {
        long = turn.long ∙ f.long;
        laid = record {
          whole = turn.laid.whole;
          each = λ i h. turn.laid.each i h ∙ ap (λ (n : ℕ). grown k.b n (cost i (get_or y j 0))) (moved_held i (rw (← turn.long) h));
        };
        agrees = turn.agrees 0 (after k.g cost y j) (enters k.b k.g k.per k.enter ok.start) f.agrees;
      })
    where
      moved_held : (i : ℕ) → i < length words * k.per → moved k.enter (across (suc k.b) k.per words) i ≡ moved k.enter (held k used t y j) i
      moved_held zero h = moved_first k.enter (across (suc k.b) k.per words) ∙ sym (moved_first k.enter (held k used t y j))
      moved_held (suc i) h =
          moved_next k.enter (across (suc k.b) k.per words) i ∙ f.laid.each i (omega arith) ∙ sym (moved_next k.enter (held k used t y j) i)

  -- no second words follow
  pub no_second_follows : (words words' : List ℕ) (j : ℕ) → Follows k used t y words j → Follows k used t y words' j → words ≡ words'
  no_second_follows words words' j f f' =
      no_second_words (suc k.b) k.per words words' (held k used t y j) (f.long ∙ sym f'.long) f.laid f'.laid

  -- the window at s of m points is a place under the sums alone exactly where the top bit of the last point's counter is clear
  module _ (m s : ℕ) (some : 1 ≤ m) (needed : Needed k.per m used) (inside : s + m ≤ length y) (words : List ℕ) (f : Follows k used t y words (s + m)) where
    last_sum : after k.g cost y (s + m) (m - 1) ≡ sum_cost cost y s m
    last_sum =
        let e : s + m ≡ suc (s + (m - 1)) = omega arith in
        let e' : m - 1 + 1 ≡ m = omega arith in
        ap (λ (j : ℕ). after k.g cost y j (m - 1)) e ∙ sum_is k.g cost y (m - 1) s ∙ ap (sum_cost cost y s) e'

    last_stands : Stands k.b k.g (counter (suc k.b) (get_or words (used - 1) 0) ((m - 1) % k.per)) (after k.g cost y (s + m) (m - 1))
    last_stands =
        let at : (m - 1) / k.per ≡ used - 1 = last_word k.per m ok.some used some needed in
        rw (across_is (suc k.b) k.per words (m - 1), at) at (f.agrees.each (m - 1) (rw f.long (omega (arith, needed.enough))))

    pub judged : eqb (bit_and (get_or words (used - 1) 0) (2 ^ (suc k.b * ((m - 1) % k.per) + k.b))) 0 ≡ (sought_in k m used t y).place s
    judged =
        let told = clear_exactly k.b k.g (get_or words (used - 1) 0) ((m - 1) % k.per) (after k.g cost y (s + m) (m - 1)) last_stands in
        same_test _ _
        (λ e. by_is (summing cost) m k.g y s inside (fit_all (λ i a. true) y s m (λ i h. refl))
        (omega (arith, last_sum, told.0 (eqb-true _ _ e))))
        (λ e. eq-eqb _ _ (told.1 (omega (arith, last_sum, by_within (summing cost) m k.g y s e))))

    -- and where it is one, that counter is the sum and what it started at
    pub last_told : (sought_in k m used t y).place s ≡ true → counter (suc k.b) (get_or words (used - 1) 0) ((m - 1) % k.per) ≡ (sought_in k m used t y).sum s + k.enter
    last_told e =
        let within = by_within (summing cost) m k.g y s e in
        omega (arith, last_sum, last_stands.low (omega (arith, last_sum, within)), ok.start)

-- ---- a table of capped additions with the entering counter c in them may be added to the counters
pub tabled_addable : (b g c n k m : ℕ) (cost : ℕ → ℕ → ℕ) (t : List ℕ) → c + (g + 1) ≡ 2 ^ b → 1 ≤ n → 1 ≤ m → m ≤ k * n → Tabled (suc b) n k m (with_entering c cost) t
    → ((i a : ℕ) → cost i a ≤ g + 1) → Addable b c n k t
tabled_addable b g c n k m cost t starts some points room h capped = record { long = h.long; each = row }
  where
    most : (i a : ℕ) → with_entering c cost i a ≤ 2 ^ b
    most i a = omega (arith, starts, entering_le c i, capped i a)

    row : (a : ℕ) → a < suc highest → SmallAcross b c n k (row_of k t a)
    row a byte =
        let long : length (row_of k t a) ≡ k = row_length k t a h.long byte in
        let laid = h.each a byte in
        record {
          long = long;
          each = λ j r. record {
            bound = laid.whole.bound j (rw long r);
            each = λ i s.
                let at : across (suc b) n (row_of k t a) (j * n + i) ≡ padded m (λ p. with_entering c cost p a) (j * n + i) = laid.each (j * n + i) (rw long (digits_lt r s)) in
                rw (← (across_at (suc b) n (row_of k t a) j i s), at) (padded_small m (λ p. with_entering c cost p a) (j * n + i) (2 ^ b) (most (j * n + i) a));
          };
          first = omega (arith, laid.each 0 (rw long (omega arith)), padded_below m (λ p. with_entering c cost p a) 0 points, entering_first c);
        }
