-- Words whose bits mark points: bit i of a word stands for point i, counted from 0. Assumes nothing.
use Rattle.std.specs.Prelude.{◌≡◌, Bool, cond, ◌&&◌, ◌||◌, List, ℕ, ◌+◌, ◌-◌, ◌/◌, ◌%◌, ◌^◌, ◌≤◌, ◌<◌, length, get_or, eqb, leb, ltb}
use Rattle.std.specs.Int.Bits.{bit_or}

-- how many bits a word has, and how many readings there are
abbrev pub word_bits : ℕ
word_bits = 64

abbrev pub readings : ℕ
readings = 256

-- bit i of the word w is set
unfoldable pub bit : ℕ → ℕ → Bool
bit w i = eqb (w / 2 ^ i % 2) 1

-- w marks just the points below m that pass a test
pub record Marks (m : ℕ) (test : ℕ → Bool) (w : ℕ) : Type 0 where
  pub bound : w < 2 ^ m
  pub each : (i : ℕ) → i < m → bit w i ≡ test i

-- for each reading a word that marks the points that it suits
pub record MarkTable (m : ℕ) (fit : ℕ → ℕ → Bool) (table : List ℕ) : Type 0 where
  pub long : length table ≡ readings
  pub word : (a : ℕ) → a < readings → Marks m (λ i. fit i a) (get_or table a 0)

-- the word w with point i marked too, where it is to be
abbrev pub with_mark : Bool → ℕ → ℕ → ℕ
with_mark b i w = cond b (bit_or w (2 ^ i)) w

-- the highest point that is marked in a word, and the word without its mark
pub record Highest (w point left : ℕ) : Type 0 where
  pub inside : point < word_bits
  pub reached : 2 ^ point ≤ w
  pub none_above : w < 2 ^ (point + 1)
  pub without : left ≡ w - 2 ^ point

-- Point i is marked in `here`, point i - k in `before`, and point i + k in `after`; of m points, so where there is no point i - k or i + k, it is not
-- asked for.
abbrev pub sieved : ℕ → ℕ → ℕ → ℕ → ℕ → ℕ → Bool
sieved here before after k m i = bit here i && ((ltb i k || bit before (i - k)) && (leb m (i + k) || bit after (i + k)))
