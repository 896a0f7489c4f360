-- The table of additions: for each of the 256 readings as many words as the counters take, with what it adds to the counter of every
-- point. Assumes nothing.
use Rattle.std.specs.Prelude.{ℕ, suc, ◌+◌, ◌*◌, ◌^◌, ◌≤◌, ◌<◌, cond, ◌≡◌, List, length, take, drop, ltb}
use Rattle.fit.specs.Reading.{highest}
use Rattle.counters.specs.Word.{word_bits}
use Rattle.counters.specs.Sums.{costs}
use Rattle.counters.specs.Words.{across, LaidAcross}

-- n counters of l bits fit a word, and every addition for (d, g) fits its counter
pub record Room (l n d g : ℕ) : Type 0 where
  pub some : 1 ≤ l
  pub narrow : l < word_bits
  pub fit : l * n ≤ word_bits
  pub each_small : d ≤ g
  pub sum_small : g < 2 ^ 32
  pub top : g + 1 < 2 ^ l

-- the words of reading a, k to a reading
abbrev pub row_of : ℕ → List ℕ → ℕ → List ℕ
row_of k t a = take k (drop (a * k) t)

-- what they cost at point i, where the first counter of each reading holds the counter c as well, that enters there
abbrev pub cost_in : ℕ → ℕ → ℕ → ℕ → List ℕ → ℕ → ℕ → ℕ
cost_in l n c k t i a = costs c (across l n (row_of k t a)) i

-- f at the m points, and nothing at the counters above the last one
unfoldable pub padded : ℕ → (ℕ → ℕ) → ℕ → ℕ
padded m f i = cond (ltb i m) (f i) 0

-- the k words of each reading hold these costs at m points, in counters of l bits, n to a word
pub record Tabled (l n k m : ℕ) (cost : ℕ → ℕ → ℕ) (t : List ℕ) : Type 0 where
  pub long : suc highest * k ≤ length t
  pub each : (a : ℕ) → a < suc highest → LaidAcross l n (row_of k t a) (padded m (λ i. cost i a))

-- the lent list has the table in front, and behind it the entries that it had
pub record TabledIn (l n k m : ℕ) (cost : ℕ → ℕ → ℕ) (entry final : List ℕ) : Type 0 where
  pub tabled : Tabled l n k m cost final
  pub same : length final ≡ length entry
  pub rest : drop (suc highest * k) final ≡ drop (suc highest * k) entry
