-- Counters side by side in a word: a word is a number, and its counters are told by their index. Assumes nothing.
use Rattle.std.specs.Prelude.{ℕ, ◌*◌, ◌/◌, ◌%◌, ◌^◌, ◌<◌, ◌≡◌}

-- the bits of a word
abbrev pub word_bits : ℕ
word_bits = 64

-- counter i, from 0, of a word of counters that are l bits wide
unfoldable pub counter : ℕ → ℕ → ℕ → ℕ
counter l w i = w / 2 ^ (l * i) % 2 ^ l

-- the word's m counters of l bits hold f 0 .. f (m - 1), and nothing stands above them
pub record Laid (l m w : ℕ) (f : ℕ → ℕ) : Type 0 where
  pub bound : w < 2 ^ (l * m)
  pub each : (i : ℕ) → i < m → counter l w i ≡ f i
