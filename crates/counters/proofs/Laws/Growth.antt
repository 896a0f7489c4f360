-- One reading: the word's counters agree with the separate sums again. Over any width, any number of counters and any size of the
-- word. Assumes nothing.
use mathlib.Core.Path.{◌≡◌, ap, ap₂, ◌∙◌}
use mathlib.Core.Logic.{⊎_elim}
use Prim.Native.Nat.{ℕ, zero, suc, ◌+◌, ◌-◌, ◌*◌, ◌/◌, ◌%◌, ◌^◌, ◌≤◌, ◌<◌}
use native.Mathlib.Nat.{mod-lt, mod-eq_of_lt, div-eq_of_lt, lt_of_le_of_lt, mul-le-mul_left, div-eq_of_lt-le, zero-mul, le_trans}
use native.Mathlib.Omega.{arith}
use lib.Pow.{pow_pos, pow-add}
use lib.Bits.{bit_and, bit_or, and_mask, and_high, and_le_l, and_le_r, or_add_and, or_zero_r, or_lt}
use Rattle.counters.specs.Word.{counter, Laid}
use Rattle.counters.specs.Sums.{Stands, Agrees, moved, stepped, grown, Small, Turned}
use Rattle.counters.proofs.Laws.Widths.{le_or_lt}
use Rattle.counters.proofs.Laws.Fields.{counter_and, counter_or, counter_lt, counter_add, add_lt, first, later, entered}

-- the machine's shift by l in a word of k bits, with c put in
abbrev pub raised : ℕ → ℕ → ℕ → ℕ → ℕ
raised l k w c = bit_or (w * 2 ^ l % 2 ^ k) c

-- the code's word after a reading: d is the word with its counters moved up, lows and tops are the masks, a has the additions
abbrev pub word_grown : ℕ → ℕ → ℕ → ℕ → ℕ
word_grown d lows tops a = bit_or (bit_and d lows + a) (bit_and d tops)

-- ---- one counter of b low bits and a top bit
pub top_bit : (b c : ℕ) → bit_and c (2 ^ b) ≡ (c / 2 ^ b % 2) * 2 ^ b
top_bit b c = ap (bit_and c) (omega (arith, pow-add 2 1 b)) ∙ and_high c 1 b

module _ (b g : ℕ) where
  -- no carry out of the counter
  no_carry : (c a : ℕ) → a ≤ 2 ^ b → bit_and c (2 ^ b - 1) + a < 2 ^ suc b
  no_carry c a h = omega (arith, and_mask c b, mod-lt c (pow_pos b))

  -- with its top bit clear it takes the whole addition, and with its top bit set it keeps it
  pub below : (c a : ℕ) → c < 2 ^ b → grown b c a ≡ c + a
  below c a h =
      let lows : bit_and c (2 ^ b - 1) ≡ c = and_mask c b ∙ mod-eq_of_lt h in
      let tops : bit_and c (2 ^ b) ≡ 0 = top_bit b c ∙ ap (λ (n : ℕ). n % 2 * 2 ^ b) (div-eq_of_lt h) ∙ zero-mul (2 ^ b) in
      ap₂ (λ (x y : ℕ). bit_or (x + a) y) lows tops ∙ or_zero_r (c + a)

  over : (c a : ℕ) → 2 ^ b ≤ c → c < 2 ^ suc b → 2 ^ b ≤ grown b c a
  over c a h k =
      let q : c / 2 ^ b ≡ 1 = div-eq_of_lt-le {k = 1} (2 ^ b) {m = c} (omega arith) (omega arith) in
      let tops : bit_and c (2 ^ b) ≡ 2 ^ b = top_bit b c ∙ ap (λ (n : ℕ). n % 2 * 2 ^ b) q ∙ omega arith in
      let y : ℕ = bit_and c (2 ^ b - 1) + a in
      rw tops (omega (arith, or_add_and y (2 ^ b), and_le_l y (2 ^ b)))

  stands_step : (c a p : ℕ) → c < 2 ^ suc b → Stands b g c p → Stands b g (grown b c a) (p + a)
  stands_step c a p hc s = ⊎_elim under past (le_or_lt p g)
    where
      under : p ≤ g → Stands b g (grown b c a) (p + a)
      under h =
          let e : c + (g + 1) ≡ p + 2 ^ b = s.low h in
          rw (below c a (omega arith)) (record { top = omega arith; low = λ _. omega arith })

      past : g < p → Stands b g (grown b c a) (p + a)
      past h =
          let e : 2 ^ b ≤ grown b c a = over c a (s.top.1 h) hc in
          record { top = ((λ k. omega arith), (λ k. e)); low = λ k. absurd (omega arith) }

  -- counters f that stand for the sums s, below k: moved one up, with c entering, and grown, they stand for the sums moved up and grown
  pub grown_stands : (f : ℕ → ℕ) (c : ℕ) (cost : ℕ → ℕ) (p : ℕ) (s : ℕ → ℕ) (k : ℕ) → ((i : ℕ) → f i < 2 ^ suc b) → c < 2 ^ suc b
      → Stands b g c p → ((i : ℕ) → i < k → Stands b g (f i) (s i)) → (i : ℕ) → i < k → Stands b g (grown b (moved c f i) (cost i)) (stepped cost p s i)
  unfolding moved stepped
  grown_stands f c cost p s k fl cl cs fs zero h = stands_step c (cost 0) p cl cs
  grown_stands f c cost p s k fl cl cs fs (suc i) h = stands_step (f i) (cost (suc i)) (s i) (fl i) (fs i (omega arith))

  -- ---- the word
  module _ (m k lows tops a : ℕ) (fit : suc b * m ≤ k) (hl : Laid (suc b) m lows (λ _. 2 ^ b - 1)) (ht : Laid (suc b) m tops (λ _. 2 ^ b))
      (small : Small b m a) where
    low_counter : (d i : ℕ) → i < m → counter (suc b) (bit_and d lows) i ≡ bit_and (counter (suc b) d i) (2 ^ b - 1)
    low_counter d i h = counter_and (suc b) d lows i ∙ ap (bit_and (counter (suc b) d i)) (hl.each i h)

    top_counter : (d i : ℕ) → i < m → counter (suc b) (bit_and d tops) i ≡ bit_and (counter (suc b) d i) (2 ^ b)
    top_counter d i h = counter_and (suc b) d tops i ∙ ap (bit_and (counter (suc b) d i)) (ht.each i h)

    free : (d i : ℕ) → i < m → counter (suc b) (bit_and d lows) i + counter (suc b) a i < 2 ^ suc b
    free d i h = rw (low_counter d i h) (no_carry (counter (suc b) d i) (counter (suc b) a i) (small.each i h))

    -- the sum has no more than the m counters, so it does not wrap
    pub sum_fits : (d : ℕ) → bit_and d lows + a < 2 ^ (suc b * m)
    sum_fits d = add_lt (suc b) (bit_and d lows) a m (lt_of_le_of_lt (and_le_r d lows) hl.bound) small.bound (free d)

    grown_lt : (d : ℕ) → word_grown d lows tops a < 2 ^ (suc b * m)
    grown_lt d = or_lt (suc b * m) (bit_and d lows + a) (bit_and d tops) (sum_fits d) (lt_of_le_of_lt (and_le_r d tops) ht.bound)

    -- counter by counter
    grown_counter : (d i : ℕ) → i < m → counter (suc b) (word_grown d lows tops a) i ≡ grown b (counter (suc b) d i) (counter (suc b) a i)
    grown_counter d i h =
        counter_or (suc b) (bit_and d lows + a) (bit_and d tops) i
        ∙ ap₂ bit_or
        (counter_add (suc b) (bit_and d lows) a i (λ j r. free d j (omega arith)) ∙ ap (λ (n : ℕ). n + counter (suc b) a i) (low_counter d i h))
        (top_counter d i h)

    -- every counter moved one up, with c entering
    module _ (w c : ℕ) (cl : c < 2 ^ suc b) where
      raised_counter : (i : ℕ) → i < m → counter (suc b) (raised (suc b) k w c) i ≡ moved c (counter (suc b) w) i
      unfolding moved
      raised_counter zero h = entered (suc b) w k zero (le_trans (mul-le-mul_left (suc b) h) fit) cl ∙ first (suc b) w cl
      raised_counter (suc i) h = entered (suc b) w k (suc i) (le_trans (mul-le-mul_left (suc b) h) fit) cl ∙ later (suc b) w i cl

      turned_laid : Laid (suc b) m (word_grown (raised (suc b) k w c) lows tops a) (λ i. grown b (moved c (counter (suc b) w) i) (counter (suc b) a i))
      turned_laid = record {
        bound = grown_lt (raised (suc b) k w c);
        each = λ i h. grown_counter (raised (suc b) k w c) i h ∙ ap (λ (n : ℕ). grown b n (counter (suc b) a i)) (raised_counter i h);
      }

      turned_agrees : (p : ℕ) (s : ℕ → ℕ) → Stands b g c p → Agrees b g m w s
          → Agrees b g m (word_grown (raised (suc b) k w c) lows tops a) (stepped (counter (suc b) a) p s)
      turned_agrees p s cs ws = record {
        bound = turned_laid.bound;
        each = λ i h. rw (turned_laid.each i h)
            (grown_stands (counter (suc b) w) c (counter (suc b) a) p s m (counter_lt (suc b) w) cl cs ws.each i h);
      }

      pub turned : Turned b g m w c (counter (suc b) a) (word_grown (raised (suc b) k w c) lows tops a)
      turned = record { laid = turned_laid; agrees = turned_agrees }
