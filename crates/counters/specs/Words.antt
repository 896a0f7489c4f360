-- Counters over as many words as needed. Assumes nothing.
use Rattle.std.specs.Prelude.{ℕ, suc, ◌+◌, ◌-◌, ◌*◌, ◌/◌, ◌%◌, ◌^◌, ◌≤◌, ◌<◌, ◌≡◌, List, length, get_or}
use Rattle.counters.specs.Word.{word_bits, counter}
use Rattle.counters.specs.Sums.{Stands, Small, moved, stepped, grown}

-- #104: "Lay whole counters into .. 64-bit words": as many of l bits as fit one
abbrev pub per_word : ℕ → ℕ
per_word l = word_bits / l

-- "as many 64-bit words as needed", as a fact: k words of n counters have room for m, and one word less has not
pub record Needed (n m k : ℕ) : Type 0 where
  pub enough : m ≤ k * n
  pub fewer : (k - 1) * n < m

-- and as a number
abbrev pub words_for : ℕ → ℕ → ℕ
words_for n m = (m + (n - 1)) / n

-- "none split over two words": counter i of the words ws, from 0, stands whole in word i / n
unfoldable pub across : ℕ → ℕ → List ℕ → ℕ → ℕ
across l n ws i = counter l (get_or ws (i / n) 0) (i % n)

-- no word has anything above its n counters
pub record Whole (l n : ℕ) (ws : List ℕ) : Type 0 where
  pub bound : (j : ℕ) → j < length ws → get_or ws j 0 < 2 ^ (l * n)

-- the counters of the words hold f 0, f 1, .., and nothing stands above them
pub record LaidAcross (l n : ℕ) (ws : List ℕ) (f : ℕ → ℕ) : Type 0 where
  pub whole : Whole l n ws
  pub each : (i : ℕ) → i < length ws * n → across l n ws i ≡ f i

-- "The step agrees with m separate sums exactly as before": the counters of the words, and nothing above them, stand for s 0, s 1, ..
pub record AgreesAcross (b g n : ℕ) (ws : List ℕ) (s : ℕ → ℕ) : Type 0 where
  pub whole : Whole (suc b) n ws
  pub each : (i : ℕ) → i < length ws * n → Stands b g (across (suc b) n ws i) (s i)

-- k words that may be added, and their first counter holds the counter c that enters
pub record SmallAcross (b c n k : ℕ) (ws : List ℕ) : Type 0 where
  pub long : length ws ≡ k
  pub each : (j : ℕ) → j < k → Small b n (get_or ws j 0)
  pub first : c ≤ across (suc b) n ws 0

-- One reading over the words ws, where the counter c enters and each counter grows by its cost, gives the words rs: what each counter
-- holds, and that with whatever sums the words agreed, they agree with them again. "Each reading moves the top counter of one word into
-- the next": the counters are moved as if they stood in one word.
pub record TurnedAcross (b g n : ℕ) (ws : List ℕ) (c : ℕ) (cost : ℕ → ℕ) (rs : List ℕ) : Type 0 where
  pub long : length rs ≡ length ws
  pub laid : LaidAcross (suc b) n rs (λ i. grown b (moved c (across (suc b) n ws) i) (cost i))
  pub agrees : (p : ℕ) (s : ℕ → ℕ) → Stands b g c p → AgreesAcross b g n ws s → AgreesAcross b g n rs (stepped cost p s)
