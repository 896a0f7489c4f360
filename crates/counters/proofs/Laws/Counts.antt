-- How many counters stand in a word, and how many words are needed. Assumes nothing.
use mathlib.Core.Path.{◌≡◌}
use mathlib.Core.Logic.{⊎_elim}
use Prim.Native.Nat.{ℕ, zero, suc, min, ◌+◌, ◌-◌, ◌*◌, ◌/◌, ◌%◌, ◌≤◌, ◌<◌}
use Rattle.std.proofs.lemmas.Grind.{div_ceil_times}
use native.Mathlib.Nat.{div-add-mod, div-lt_iff_lt-mul, le-div_iff_mul-le, div-eq_of_lt-le, le_refl, lt-suc_self, le_of_suc-le-suc, le_antisymm, mul-le-mul_right}
use native.Mathlib.Omega.{arith}
use Rattle.counters.specs.Word.{word_bits}
use Rattle.counters.specs.Words.{per_word, Needed, words_for}
use Rattle.counters.proofs.Laws.Widths.{le_or_lt}

-- the counters of a word fit it, and no more of them would
pub per_fits : (l : ℕ) → l * per_word l ≤ word_bits
per_fits l = omega (arith, div-add-mod word_bits l)

pub per_most : (l n : ℕ) → 1 ≤ l → n * l ≤ word_bits → n ≤ per_word l
per_most l n some h = (le-div_iff_mul-le some).1 h

module _ (n m : ℕ) (some : 1 ≤ n) where
  pub words_needed : 1 ≤ m → Needed n m (words_for n m)
  words_needed points = record { enough = omega (arith, above); fewer = one_less (words_for n m) below }
    where
      above : m + (n - 1) < suc (words_for n m) * n
      above = (div-lt_iff_lt-mul some).0 (lt-suc_self (words_for n m))

      below : words_for n m * n ≤ m + (n - 1)
      below = (le-div_iff_mul-le some).0 (le_refl (words_for n m))

      one_less : (k : ℕ) → k * n ≤ m + (n - 1) → (k - 1) * n < m
      one_less zero h = omega arith
      one_less (suc k) h = let e : suc k - 1 ≡ k = omega arith in rw e (omega arith)

  pub words_least : (k : ℕ) → m ≤ k * n → words_for n m ≤ k
  words_least k h = le_of_suc-le-suc ((div-lt_iff_lt-mul some).1 (omega arith))

  -- no second number of words is needed
  pub no_second_needed : (k k' : ℕ) → Needed n m k → Needed n m k' → k ≡ k'
  no_second_needed k k' h h' = le_antisymm (at_most k k' h h') (at_most k' k h' h)
    where
      at_most : (k k' : ℕ) → Needed n m k → Needed n m k' → k ≤ k'
      at_most k k' h h' =
          ⊎_elim (λ r. r) (λ (r : k' < k). let more : k' * n ≤ (k - 1) * n = mul-le-mul_right n (omega arith) in absurd (omega (arith, h.fewer, h'.enough)))
          (le_or_lt k k')

  -- the code's division that rounds up is that number
  pub rounded_up : 1 ≤ m → m / n + min 1 (m % n) ≡ words_for n m
  rounded_up points = no_second_needed (m / n + min 1 (m % n)) (words_for n m) needed (words_needed points)
    where
      one_less : (k : ℕ) → k * n < m + n → (k - 1) * n < m
      one_less zero h = omega arith
      one_less (suc k) h = let e : suc k - 1 ≡ k = omega arith in rw e (omega arith)

      needed : Needed n m (m / n + min 1 (m % n))
      needed = let times = div_ceil_times m n some in record { enough = times.0; fewer = one_less (m / n + min 1 (m % n)) times.1 }

  module _ (k : ℕ) (points : 1 ≤ m) (h : Needed n m k) where
    pub some_word : 1 ≤ k
    some_word = ⊎_elim (λ (z : k ≤ 0). absurd (none (mul-le-mul_right n z))) (λ r. r) (le_or_lt k 0)
      where
        none : k * n ≤ 0 * n → ⊥
        none l = omega (arith, h.enough)

    -- the last counter stands in the last word
    pub last_word : (m - 1) / n ≡ k - 1
    last_word =
        let all : k - 1 + 1 ≡ k = omega (arith, some_word) in
        div-eq_of_lt-le {k = k - 1} n {m = m - 1} (omega (arith, h.fewer)) (rw all (omega (arith, h.enough)))
