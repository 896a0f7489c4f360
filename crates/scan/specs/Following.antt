-- What the scan goes by, what holds of its words, and what it answers. Assumes nothing.
use Rattle.std.specs.Prelude.{ℕ, zero, suc, ◌+◌, ◌*◌, ◌^◌, ◌≤◌, ◌<◌, true, ◌≡◌, List, length, get_or}
use Rattle.fit.specs.Reading.{highest}
use Rattle.fit.specs.Rule.{Rule}
use Rattle.fit.specs.Place.{windows}
use Rattle.fit.specs.Refusal.{max_gamma, max_readings}
use Rattle.fit.specs.Answer.{Sought, sought_by, Lent, told, Answer}
use Rattle.fit.specs.declared.answer.Found.{Found}
use Rattle.counters.specs.Sums.{moved, grown}
use Rattle.counters.specs.Words.{Needed, LaidAcross, AgreesAcross, SmallAcross}
use Rattle.counters.specs.Sound.{Sound}
use Rattle.counters.specs.declared.Masks.{Masks}
use Rattle.adding.specs.Tables.{row_of, cost_in}
use Rattle.scan.specs.Separate.{after}

-- the k words of each reading may be added to k words of n counters, of b low bits each, and hold the counter c that enters
pub record Addable (b c n k : ℕ) (t : List ℕ) : Type 0 where
  pub long : suc highest * k ≤ length t
  pub each : (a : ℕ) → a < suc highest → SmallAcross b c n k (row_of k t a)

-- what the readings of the table cost at point i, in k words
abbrev pub scan_cost : Masks → ℕ → List ℕ → ℕ → ℕ → ℕ
scan_cost masks k t i a = cost_in (suc masks.b) masks.per masks.enter k t i a

-- what the scan goes by, for m points in k words
pub record Scannable (masks : Masks) (m k : ℕ) (t y : List ℕ) : Type 0 where
  pub sound : Sound masks
  pub some : 1 ≤ m
  pub needed : Needed masks.per m k
  pub addable : Addable masks.b masks.enter masks.per k t
  pub short : length y ≤ max_readings
  pub g_small : masks.g ≤ max_gamma

-- what counter i of the k words holds after j readings of y: at first its top bit alone, then what each reading makes of it
unfoldable pub held : Masks → ℕ → List ℕ → List ℕ → ℕ → ℕ → ℕ
held masks k t y zero i = 2 ^ masks.b
held masks k t y (suc j) i = grown masks.b (moved masks.enter (held masks k t y j) i) (scan_cost masks k t i (get_or y j 0))

-- "Each step must agree, counter by counter, with m separate sums": the k words after j readings of y, what they hold and what they agree
-- with. The separate sums go on above the last point, as the counters do; nothing is asked of them there.
pub record Follows (masks : Masks) (k : ℕ) (t y words : List ℕ) (j : ℕ) : Type 0 where
  pub long : length words ≡ k
  pub laid : LaidAcross (suc masks.b) masks.per words (held masks k t y j)
  pub agrees : AgreesAcross masks.b masks.g masks.per words (after masks.g (scan_cost masks k t) y j)

-- a counter that is a sum and what it started at, where a 16-bit number holds the sum
pub record Short (enter c : ℕ) : Type 0 where
  pub grown : enter ≤ c
  pub short : c < enter + 2 ^ 16

-- the rule that every reading suits, so that the sum alone decides: one that is not near has put it above g
abbrev pub summing : (ℕ → ℕ → ℕ) → Rule
summing cost = record { fit = λ i a. true; cost = cost }

-- what the counter of point m tells of every window: whether its sum, by the table, is at most g, and then the sum
abbrev pub sought_in : Masks → ℕ → ℕ → List ℕ → List ℕ → Sought
sought_in masks m k t y = sought_by (summing (scan_cost masks k t)) m masks.g y

-- the answer of a scan that has just begun: what is told so, and every window tried
abbrev pub Scans : Masks → ℕ → ℕ → List ℕ → List ℕ → Lent → Found → Lent → Type 0
Scans masks m k t y entry r final = Answer 0 (sought_in masks m k t y) (windows m (length y)) entry (told r) final
