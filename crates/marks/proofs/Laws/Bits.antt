-- Laws of the bits of a word: what a cut, a shift, `&` and `|` do to each. Nobody else opens `bit`. Assumes nothing.
use mathlib.Core.Path.{◌≡◌, refl, sym, ap, ap₂, ◌∙◌}
use mathlib.Core.Bool.{Bool, true, false, ◌&&◌, ◌||◌}
use Prim.Native.Nat.{ℕ, zero, suc, ◌+◌, ◌-◌, ◌*◌, ◌/◌, ◌%◌, ◌^◌, ◌≤◌, ◌<◌}
use native.Mathlib.Nat.{div-eq_of_lt, div-one, one-mul, lt_of_lt_of_le, mod-lt, le_refl}
use native.Mathlib.Omega.{arith}
use lib.Dec.{eqb, lit<}
use lib.Pow.{pow_pos, pow_mono, high, low, split, field, mod-mod-pow, shl_exact, shr-shr, shl-shr}
use lib.Bits.{bit_and, bit_or, and_shr, and_mod, and_mask, or_shr, or_mod}
use borrow.Author.Tests.{eqb-true}
use Rattle.marks.specs.Marks.{word_bits, bit}

-- the machine's `1 << i`
pub one_shifted : (i : ℕ) → i < word_bits → (1 * 2 ^ i) % 2 ^ word_bits ≡ 2 ^ i
one_shifted i h = shl_exact 1 i word_bits (lit< tt) (omega arith) ∙ one-mul (2 ^ i)

-- it is a binary digit
pub bit_digit : (w i : ℕ) → eqb (w / 2 ^ i % 2) 1 ≡ bit w i
unfolding bit
bit_digit w i = refl

-- a cut above the bit leaves it
pub bit_cut : (w k i : ℕ) → i < k → bit (w % 2 ^ k) i ≡ bit w i
unfolding bit
bit_cut w k i h =
    let e : k ≡ (k - i - 1 + 1) + i = omega arith in
    ap (λ (n : ℕ). eqb (w % 2 ^ n / 2 ^ i % 2) 1) e
    ∙ ap (λ (n : ℕ). eqb (n % 2) 1) (field w (k - i - 1 + 1) i)
    ∙ ap (λ (n : ℕ). eqb n 1) (mod-mod-pow (w / 2 ^ i) (k - i - 1) 1)

-- there is none above the word
pub bit_above : (w k i : ℕ) → w < 2 ^ k → k ≤ i → bit w i ≡ false
unfolding bit
bit_above w k i h l = ap (λ (n : ℕ). eqb (n % 2) 1) (div-eq_of_lt (lt_of_lt_of_le h (pow_mono l)))

pub zero_bit : (i : ℕ) → bit 0 i ≡ false
zero_bit i = bit_above 0 0 i (pow_pos 0) (omega arith)

-- the highest bit is set
pub bit_top : (w i : ℕ) → w < 2 ^ i → bit (1 * 2 ^ i + w) i ≡ true
unfolding bit
bit_top w i h = ap (λ (n : ℕ). eqb (n % 2) 1) (high 1 i h)

pub bit_power : (k : ℕ) → bit (2 ^ k) k ≡ true
bit_power k = let e : 1 * 2 ^ k + 0 ≡ 2 ^ k = omega (arith, one-mul (2 ^ k)) in rw e at (bit_top 0 k (pow_pos k))

-- ---- a shift by k
pub bit_down : (w k i : ℕ) → bit (w / 2 ^ k) i ≡ bit w (i + k)
unfolding bit
bit_down w k i =
    let e : k + i ≡ i + k = omega arith in
    ap (λ (n : ℕ). eqb (n % 2) 1) (shr-shr w k i) ∙ ap (λ (n : ℕ). eqb (w / 2 ^ n % 2) 1) e

pub bit_up : (w k i : ℕ) → k ≤ i → bit (w * 2 ^ k) i ≡ bit w (i - k)
bit_up w k i h =
    let e : i - k + k ≡ i = omega arith in
    rw e at (sym (bit_down (w * 2 ^ k) k (i - k))) ∙ ap (λ (n : ℕ). bit n (i - k)) (shl-shr w k)

pub bit_under : (w k i : ℕ) → i < k → bit (w * 2 ^ k) i ≡ false
bit_under w k i h =
    let e : w * 2 ^ k + 0 ≡ w * 2 ^ k = omega arith in
    sym (bit_cut (w * 2 ^ k) k i h) ∙ ap (λ (n : ℕ). bit n i) (rw e at (low w k (pow_pos k))) ∙ zero_bit i

-- ---- `&` and `|`
and_digit : (x y : ℕ) → x < 2 → y < 2 → eqb (bit_and x y) 1 ≡ (eqb x 1 && eqb y 1)
and_digit zero y h k = refl
and_digit (suc zero) zero h k = refl
and_digit (suc zero) (suc zero) h k = refl
and_digit (suc zero) (suc (suc y)) h k = absurd (omega arith)
and_digit (suc (suc x)) y h k = absurd (omega arith)

or_digit : (x y : ℕ) → x < 2 → y < 2 → eqb (bit_or x y) 1 ≡ (eqb x 1 || eqb y 1)
or_digit zero y h k = refl
or_digit (suc zero) zero h k = refl
or_digit (suc zero) (suc zero) h k = refl
or_digit (suc zero) (suc (suc y)) h k = absurd (omega arith)
or_digit (suc (suc x)) y h k = absurd (omega arith)

digit_lt : (w i : ℕ) → w / 2 ^ i % 2 < 2
digit_lt w i = mod-lt (w / 2 ^ i) (lit< tt)

pub bit_and_lem : (a b i : ℕ) → bit (bit_and a b) i ≡ (bit a i && bit b i)
unfolding bit
bit_and_lem a b i =
    ap (λ (n : ℕ). eqb (n % 2) 1) (and_shr a b i) ∙ ap (λ (n : ℕ). eqb n 1) (and_mod (a / 2 ^ i) (b / 2 ^ i) 1)
    ∙ and_digit (a / 2 ^ i % 2) (b / 2 ^ i % 2) (digit_lt a i) (digit_lt b i)

pub bit_or_lem : (a b i : ℕ) → bit (bit_or a b) i ≡ (bit a i || bit b i)
unfolding bit
bit_or_lem a b i =
    ap (λ (n : ℕ). eqb (n % 2) 1) (or_shr a b i) ∙ ap (λ (n : ℕ). eqb n 1) (or_mod (a / 2 ^ i) (b / 2 ^ i) 1)
    ∙ or_digit (a / 2 ^ i % 2) (b / 2 ^ i % 2) (digit_lt a i) (digit_lt b i)

-- the word of k ones: its bit i is what is left of a word that has bit i, cut above k
pub bit_ones : (k i : ℕ) → i < k → bit (2 ^ k - 1) i ≡ true
bit_ones k i h =
    ap (λ (b : Bool). b && bit (2 ^ k - 1) i) (sym (bit_power i)) ∙ sym (bit_and_lem (2 ^ i) (2 ^ k - 1) i) ∙ ap (λ (n : ℕ). bit n i) (and_mask (2 ^ i) k)
    ∙ bit_cut (2 ^ i) k i h ∙ bit_power i

-- ---- two words with the same bits are the same
same_digit : (x y : ℕ) → x < 2 → y < 2 → eqb x 1 ≡ eqb y 1 → x ≡ y
same_digit zero zero h k e = refl
same_digit zero (suc zero) h k e = eqb-true 0 1 e
same_digit (suc zero) zero h k e = sym (eqb-true 0 1 (sym e))
same_digit (suc zero) (suc zero) h k e = refl
same_digit zero (suc (suc y)) h k e = absurd (omega arith)
same_digit (suc zero) (suc (suc y)) h k e = absurd (omega arith)
same_digit (suc (suc x)) y h k e = absurd (omega arith)

half_more : (w i : ℕ) → w / 2 ^ i ≡ w / 2 ^ suc i * 2 + w / 2 ^ i % 2
half_more w i =
    let e : i + 1 ≡ suc i = omega arith in
    sym (split (w / 2 ^ i) 1) ∙ ap (λ (n : ℕ). n * 2 + w / 2 ^ i % 2) (shr-shr w i 1 ∙ ap (λ (n : ℕ). w / 2 ^ n) e)

pub same_word : (m w v : ℕ) → w < 2 ^ m → v < 2 ^ m → ((i : ℕ) → i < m → bit w i ≡ bit v i) → w ≡ v
unfolding bit
same_word m w v hw hv e = from_top m (div-eq_of_lt hw ∙ sym (div-eq_of_lt hv)) e
  where
    from_top : (i : ℕ) → w / 2 ^ i ≡ v / 2 ^ i → ((j : ℕ) → j < i → eqb (w / 2 ^ j % 2) 1 ≡ eqb (v / 2 ^ j % 2) 1) → w ≡ v
    from_top zero t e = simp div-one at t
    from_top (suc i) t e =
        from_top i
        (half_more w i
        ∙ ap₂ (λ (x y : ℕ). x * 2 + y) t (same_digit (w / 2 ^ i % 2) (v / 2 ^ i % 2) (digit_lt w i) (digit_lt v i) (e i (le_refl (suc i))))
        ∙ sym (half_more v i))
        (λ j h. e j (omega arith))
