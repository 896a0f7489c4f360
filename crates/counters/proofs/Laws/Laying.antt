-- A word laid out counter by counter, each put in below the others. Assumes nothing.
use mathlib.Core.Path.{◌≡◌, refl, sym, ap, ap₂, ◌∙◌}
use mathlib.Core.Logic.{⊎_elim}
use Prim.Native.Nat.{ℕ, zero, suc, ◌+◌, ◌*◌, ◌%◌, ◌^◌, ◌≤◌, ◌<◌}
use native.Mathlib.Nat.{mul-one, mul-suc, add_comm, le_trans, le_of_eq, lt_of_lt_of_le, not-suc-le-zero, mul-le-mul_left}
use native.Mathlib.Omega.{arith}
use lib.Arith.{digits_lt}
use lib.Pow.{pow_pos, pow_mono, pow-add, shl_exact}
use lib.Bits.{bit_or, or_shifted}
use Rattle.counters.specs.Word.{word_bits, counter, Laid}
use Rattle.counters.specs.Sums.{moved, entering}
use Rattle.counters.proofs.Laws.Widths.{le_or_lt}
use Rattle.counters.proofs.Laws.Fields.{counter_lt, counter_above, counter_add, add_lt, first, later, same_words}

module _ (l : ℕ) where
  pub laid_none : (f : ℕ → ℕ) → Laid l 0 0 f
  laid_none f = record { bound = pow_pos (l * 0); each = λ i h. absurd (not-suc-le-zero h) }

  -- the counters hold the same by another rule
  pub laid_same : {m w : ℕ} {f f' : ℕ → ℕ} → Laid l m w f → ((i : ℕ) → i < m → f i ≡ f' i) → Laid l m w f'
  laid_same h e = record { bound = h.bound; each = λ i k. h.each i k ∙ e i k }

  -- a word that holds m counters holds 0 in those above, up to the n-th
  pub laid_wider : (m n w : ℕ) (f : ℕ → ℕ) → m ≤ n → ((i : ℕ) → m ≤ i → i < n → f i ≡ 0) → Laid l m w f → Laid l n w f
  laid_wider m n w f h none laid = record { bound = lt_of_lt_of_le laid.bound (pow_mono (mul-le-mul_left l h)); each = each }
    where
      each : (i : ℕ) → i < n → counter l w i ≡ f i
      each i k =
          ⊎_elim (λ r. counter_above l w m i laid.bound r ∙ sym (none i r k)) (λ r. laid.each i r)
          (le_or_lt m i)

  -- no second word holds the same
  pub no_second_word : (m w v : ℕ) (f : ℕ → ℕ) → Laid l m w f → Laid l m v f → w ≡ v
  no_second_word m w v f h k = same_words l m w v h.bound k.bound (λ i r. h.each i r ∙ sym (k.each i r))

  -- the machine's shift, with v put in at the first: one counter more, and nothing is lost while it fits the word
  pub laid_more : (m w v : ℕ) (f : ℕ → ℕ) → l * suc m ≤ word_bits → v < 2 ^ l → Laid l m w f
      → Laid l (suc m) (bit_or (w * 2 ^ l % 2 ^ word_bits) v) (moved v f)
  unfolding moved
  laid_more m w v f h hv laid = rw e (record { bound = low; each = each })
    where
      room : l * m + l ≤ word_bits
      room = le_trans (le_of_eq (sym (mul-suc l m))) h

      e : bit_or (w * 2 ^ l % 2 ^ word_bits) v ≡ w * 2 ^ l + v
      e = ap (λ (n : ℕ). bit_or n v) (shl_exact (l * m) l word_bits laid.bound room) ∙ or_shifted w l v hv

      low : w * 2 ^ l + v < 2 ^ (l * suc m)
      low = rw (mul-suc, pow-add) (digits_lt laid.bound hv)

      each : (i : ℕ) → i < suc m → counter l (w * 2 ^ l + v) i ≡ moved v f i
      each zero h = first l w hv
      each (suc i) h = later l w i hv ∙ laid.each i (omega arith)

  -- a counter c that is added at the first, where it fits: the others stay as they were
  pub laid_entering : (m w c : ℕ) (f : ℕ → ℕ) → 1 ≤ m → c + f 0 < 2 ^ l → Laid l m w f → Laid l m (w + c) (λ i. entering c i + f i)
  unfolding entering
  laid_entering m w c f some fits laid = record {
    bound = add_lt l w c m laid.bound (lt_of_lt_of_le below (pow_mono (mul-le-mul_left l some))) no_carry;
    each = λ i h. counter_add l w c i (λ j k. no_carry j (omega arith)) ∙ ap₂ (λ (x y : ℕ). x + y) (laid.each i h) (only i) ∙ add_comm (f i) (entering c i);
  }
    where
      below : c < 2 ^ (l * 1)
      below = rw mul-one (omega arith)

      only : (i : ℕ) → counter l c i ≡ entering c i
      only zero = ap (λ (n : ℕ). counter l n 0) (omega arith) ∙ first l 0 (omega arith)
      only (suc i) = counter_above l c 1 (suc i) below (omega arith)

      no_carry : (i : ℕ) → i < m → counter l w i + counter l c i < 2 ^ l
      no_carry zero h = omega (arith, laid.each 0 h, only 0)
      no_carry (suc i) h = omega (arith, only (suc i), counter_lt l w (suc i))

-- ---- a word whose counters are all at v
all_moved : (v i : ℕ) → moved v (λ _. v) i ≡ v
unfolding moved
all_moved v zero = refl
all_moved v (suc i) = refl

pub laid_alike : (l m i w v : ℕ) → l * m ≤ word_bits → v < 2 ^ l → i < m → Laid l i w (λ _. v) → Laid l (suc i) (bit_or (w * 2 ^ l % 2 ^ word_bits) v) (λ _. v)
laid_alike l m i w v fit hv h laid =
    laid_same l (laid_more l i w v (λ _. v) (le_trans (mul-le-mul_left l h) fit) hv laid) (λ j _. all_moved v j)
