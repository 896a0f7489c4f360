-- Laws of the sieve, bit by bit. Assumes nothing.
use mathlib.Core.Path.{◌≡◌, refl, sym, ap, ap₂, ◌∙◌}
use mathlib.Core.Bool.{Bool, true, false, ◌&&◌, ◌||◌}
use mathlib.Core.Logic.{⊎_elim}
use Prim.Native.Nat.{ℕ, ◌+◌, ◌-◌, ◌*◌, ◌/◌, ◌%◌, ◌^◌, ◌≤◌, ◌<◌}
use native.Mathlib.Nat.{le_trans}
use native.Mathlib.Omega.{arith}
use lib.Dec.{leb, ltb}
use lib.Pow.{ones_lt}
use lib.Bits.{bit_and, bit_or, and_le_l}
use borrow.Author.Tests.{lt-ltb, le-ltb, le-leb, lt-leb}
use Rattle.fit.proofs.Laws.Bools.{le_or_lt}
use Rattle.marks.specs.Marks.{word_bits, bit, Marks, sieved}
use Rattle.marks.proofs.Laws.Bits.{bit_cut, bit_above, bit_up, bit_under, bit_down, bit_and_lem, bit_or_lem, bit_ones}

and_assoc : (a b c : Bool) → ((a && b) && c) ≡ (a && (b && c))
and_assoc true b c = refl
and_assoc false b c = refl

or_swap : (a b : Bool) → (a || b) ≡ (b || a)
or_swap true true = refl
or_swap true false = refl
or_swap false true = refl
or_swap false false = refl

-- the machine's `w << k`
shifted : (w k i : ℕ) → i < word_bits → k ≤ i → bit (w * 2 ^ k % 2 ^ word_bits) i ≡ bit w (i - k)
shifted w k i h l = bit_cut (w * 2 ^ k) word_bits i h ∙ bit_up w k i l

-- `(w << k) | first`, where `first` has the k lowest bits
pub from_before : (w k i : ℕ) → i < word_bits → bit (bit_or (w * 2 ^ k % 2 ^ word_bits) (2 ^ k - 1)) i ≡ (ltb i k || bit w (i - k))
from_before w k i h = bit_or_lem (w * 2 ^ k % 2 ^ word_bits) (2 ^ k - 1) i ∙ ⊎_elim far near (le_or_lt k i)
  where
    far : k ≤ i → (bit (w * 2 ^ k % 2 ^ word_bits) i || bit (2 ^ k - 1) i) ≡ (ltb i k || bit w (i - k))
    far l = rw (shifted w k i h l, bit_above (2 ^ k - 1) k i (ones_lt k) l, le-ltb i k l) (or_swap (bit w (i - k)) false)

    near : i < k → (bit (w * 2 ^ k % 2 ^ word_bits) i || bit (2 ^ k - 1) i) ≡ (ltb i k || bit w (i - k))
    near l = rw (bit_ones k i l, lt-ltb i k l) (or_swap (bit (w * 2 ^ k % 2 ^ word_bits) i) true)

-- `(w >> k) | last`, where `last` has the bits from m - k on
pub from_after : (w k m i : ℕ) → k < m → i < word_bits
    → bit (bit_or (w / 2 ^ k) ((2 ^ word_bits - 1) * 2 ^ (m - k) % 2 ^ word_bits)) i ≡ (leb m (i + k) || bit w (i + k))
from_after w k m i km h =
    bit_or_lem (w / 2 ^ k) ((2 ^ word_bits - 1) * 2 ^ (m - k) % 2 ^ word_bits) i ∙ ap₂ (λ (a b : Bool). a || b) (bit_down w k i) (⊎_elim over under (le_or_lt m (i + k)))
    ∙ or_swap (bit w (i + k)) (leb m (i + k))
  where
    over : m ≤ i + k → bit ((2 ^ word_bits - 1) * 2 ^ (m - k) % 2 ^ word_bits) i ≡ leb m (i + k)
    over l = shifted (2 ^ word_bits - 1) (m - k) i h (omega arith) ∙ bit_ones word_bits (i - (m - k)) (omega arith) ∙ sym (le-leb m (i + k) l)

    under : i + k < m → bit ((2 ^ word_bits - 1) * 2 ^ (m - k) % 2 ^ word_bits) i ≡ leb m (i + k)
    under l =
        bit_cut ((2 ^ word_bits - 1) * 2 ^ (m - k)) word_bits i h ∙ bit_under (2 ^ word_bits - 1) (m - k) i (omega arith) ∙ sym (lt-leb m (i + k) l)

-- what the sieve leaves
pub sieve_marks : (here before after k m x z : ℕ) → here < 2 ^ word_bits → ((i : ℕ) → i < word_bits → bit x i ≡ (ltb i k || bit before (i - k)))
    → ((i : ℕ) → i < word_bits → bit z i ≡ (leb m (i + k) || bit after (i + k)))
    → (bit_and (bit_and here x) z ≤ here) × Marks word_bits (sieved here before after k m) (bit_and (bit_and here x) z)
sieve_marks here before after k m x z bound ex ez =
    let small : bit_and (bit_and here x) z ≤ here = le_trans (and_le_l (bit_and here x) z) (and_le_l here x) in (
      small,
      record {
        bound = omega (arith, small, bound);
        each = λ i h.
            bit_and_lem (bit_and here x) z i ∙ ap (λ (b : Bool). b && bit z i) (bit_and_lem here x i) ∙ and_assoc (bit here i) (bit x i) (bit z i)
            ∙ ap₂ (λ (a b : Bool). bit here i && (a && b)) (ex i h) (ez i h);
      },
    )
