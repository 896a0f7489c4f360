-- The sums that counters stand for, and one reading. A counter has b low bits and a top bit above them. Assumes nothing.
use Rattle.std.specs.Prelude.{ℕ, zero, suc, ◌+◌, ◌-◌, ◌*◌, ◌^◌, ◌≤◌, ◌<◌, ◌≡◌, ◌↔◌}
use Rattle.std.specs.Int.Bits.{bit_and, bit_or}
use Rattle.counters.specs.Word.{counter, Laid}

-- "its top bit is set exactly when its sum exceeds g", and "every sum above g counts as one state": the counter c stands for the sum s
-- where both are above, or else c is s and what it started at, 2^b - (g + 1)
pub record Stands (b g c s : ℕ) : Type 0 where
  pub top : (2 ^ b ≤ c) ↔ (g < s)
  pub low : s ≤ g → c + (g + 1) ≡ s + 2 ^ b

-- "counter by counter, with m separate sums": the m counters of the word, and nothing above them, stand for s 0 .. s (m - 1)
pub record Agrees (b g m w : ℕ) (s : ℕ → ℕ) : Type 0 where
  pub bound : w < 2 ^ (suc b * m)
  pub each : (i : ℕ) → i < m → Stands b g (counter (suc b) w i) (s i)

-- "moves all counters one point up", and all sums: p enters at the first
unfoldable pub moved : ℕ → (ℕ → ℕ) → ℕ → ℕ
moved p s zero = p
moved p s (suc i) = s i

-- one reading, that costs `cost i` at point i: the separate sums move up and grow
unfoldable pub stepped : (ℕ → ℕ) → ℕ → (ℕ → ℕ) → ℕ → ℕ
stepped cost p s i = moved p s i + cost i

-- "A top bit once set is taken out before the addition and put back after it": the counter c, with a added
abbrev pub grown : ℕ → ℕ → ℕ → ℕ
grown b c a = bit_or (bit_and c (2 ^ b - 1) + a) (bit_and c (2 ^ b))

-- a word that may be added: none of its m counters is above 2^b, so that none carries into the next
pub record Small (b m w : ℕ) : Type 0 where
  pub bound : w < 2 ^ (suc b * m)
  pub each : (i : ℕ) → i < m → counter (suc b) w i ≤ 2 ^ b

-- One reading over the word w, where the counter c enters and each counter grows by its cost, gives the word r: what each counter holds,
-- and that with whatever sums the word agreed, it agrees with them again.
pub record Turned (b g m w c : ℕ) (cost : ℕ → ℕ) (r : ℕ) : Type 0 where
  pub laid : Laid (suc b) m r (λ i. grown b (moved c (counter (suc b) w) i) (cost i))
  pub agrees : (p : ℕ) (s : ℕ → ℕ) → Stands b g c p → Agrees b g m w s → Agrees b g m r (stepped cost p s)

-- a counter c that enters by being added: at the first point, and nothing at the others
unfoldable pub entering : ℕ → ℕ → ℕ
entering c zero = c
entering c (suc i) = 0

-- what additions cost whose first holds the entering counter c as well
unfoldable pub costs : ℕ → (ℕ → ℕ) → ℕ → ℕ
costs c adds i = adds i - entering c i
