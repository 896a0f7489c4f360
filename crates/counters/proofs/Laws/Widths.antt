-- Laws of the width: there is a least number of low bits, `low_bits` is it, and no second one is; it is the bit length. Assumes nothing.
use mathlib.Core.Path.{◌≡◌, refl, ◌∙◌}
use mathlib.Core.Logic.{◌⊎◌, inl, inr, ⊎_elim}
use Prim.Native.Nat.{ℕ, zero, suc, ◌+◌, ◌-◌, ◌*◌, ◌%◌, ◌^◌, ◌≤◌, ◌<◌}
use native.Mathlib.Nat.{le_antisymm, lt_of_not-le, add-zero, zero-add, add-suc, suc-add}
use native.Mathlib.Decide.{dec_le}
use native.Mathlib.Numerals.{add-one}
use native.Mathlib.Omega.{arith}
use lib.Dec.{lit<}
use lib.Pow.{pow_mono, shl_exact}
use lib.Count.{count_leading_zeros, leading_length}
use borrow.Author.Tests.{lt-ltb, le-ltb}
use Rattle.counters.specs.Width.{Least, least_from, low_bits, width_of}

pub le_or_lt : (m n : ℕ) → (m ≤ n) ⊎ (n < m)
le_or_lt m n = by_dec (dec_le m n)
  where
    by_dec : Dec (m ≤ n) → (m ≤ n) ⊎ (n < m)
    by_dec (yes h) = inl h
    by_dec (no h) = inr (lt_of_not-le h)

-- no second number is the least
pub no_second_least : (g b b' : ℕ) → Least g b → Least g b' → b ≡ b'
no_second_least g b b' h h' = le_antisymm (h.least b' h'.room) (h'.least b h.room)

-- where 2^b is not above g, no power up to b is
least_more : (g b k : ℕ) → 2 ^ b ≤ g → g < 2 ^ k → b + 1 ≤ k
least_more g b k h l = ⊎_elim (λ (r : k ≤ b). absurd (omega (arith, pow_mono {i = k} {j = b} r))) (λ (r : b < k). omega arith) (le_or_lt k b)

-- the search for it: nothing below b serves, and k steps more are enough
from_least : (g k b : ℕ) → g < 2 ^ (b + k) → ((j : ℕ) → g < 2 ^ j → b ≤ j) → Least g (least_from g k b)
unfolding least_from
from_least g zero b h none = record { room = rw add-zero at h; least = none }
from_least g (suc k) b h none =
    ⊎_elim
    (λ (l : 2 ^ b ≤ g). rw (le-ltb g (2 ^ b) l) (from_least g k (suc b) (rw suc-add (rw add-suc at h)) (λ j r. omega (arith, least_more g b j l r))))
    (λ (l : g < 2 ^ b). rw (lt-ltb g (2 ^ b) l) (record { room = l; least = none }))
    (le_or_lt (2 ^ b) g)

below_power : (g : ℕ) → g < 2 ^ g
below_power zero = lit< tt
below_power (suc g) = omega (arith, below_power g)

pub low_bits_least : (g : ℕ) → Least g (low_bits g)
unfolding low_bits
low_bits_least g = from_least g g 0 (rw zero-add (below_power g)) (λ j h. omega arith)

pub is_low_bits : (g b : ℕ) → Least g b → b ≡ low_bits g
is_low_bits g b h = no_second_least g b (low_bits g) h (low_bits_least g)

-- where g fits the low bits, g + 1 fits the counter
pub room_next : (g b : ℕ) → g < 2 ^ b → g + 1 < 2 ^ (b + 1)
room_next g b h = rw (add-one b) (omega (arith, pow_mono {i = 0} {j = b} (omega arith)))

-- the machine's `1 << b`
pub one_shifted : (b : ℕ) → b ≤ 63 → (1 * 2 ^ b) % 2 ^ 64 ≡ 2 ^ b
one_shifted b h = shl_exact 1 b 64 (lit< tt) (omega arith) ∙ omega arith

-- ---- the bit length: what the leading zeros leave of w bits

-- the bit length b of g has 2^b at most 2 g + 1 (for g = 0 too, where b is 0), so no shorter number serves
shortest : (g b k : ℕ) → 2 ^ b ≤ 2 * g + 1 → g < 2 ^ k → b ≤ k
shortest g zero k h l = omega arith
shortest g (suc b) k h l = omega (arith, least_more g b k (omega (arith, h)) l)

-- of w bits, those that are no leading zeros are the low bits
pub low_bits_length : (w g : ℕ) → g < 2 ^ w → low_bits g + count_leading_zeros w g ≡ w
low_bits_length w g h =
    let t = leading_length w g h in
    let least : Least g t.0 = record { room = t.2; least = λ k l. shortest g t.0 k t.3 l } in
    omega (arith, is_low_bits g t.0 least, t.1)

-- "one more than the bit length of g"
pub width_length : (w g : ℕ) → g < 2 ^ w → width_of g ≡ (w - count_leading_zeros w g) + 1
width_length w g h = omega (arith, low_bits_length w g h)

-- g = 0 has no low bit, its counter is the top bit alone; and a power of 2 takes one bit more than the number before it
pub width_edges : (width_of 0 ≡ 1) × (width_of 3 ≡ 3) × (width_of 4 ≡ 4)
unfolding low_bits least_from
width_edges = (refl, refl, refl)
