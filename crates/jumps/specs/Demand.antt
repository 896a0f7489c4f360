-- Demand 3: what a jump passes, where it lands, on which evidence, and the two halves. Assumes nothing.
use Rattle.std.specs.Prelude.{ℕ, suc, ◌+◌, ◌-◌, ◌≤◌, ◌<◌, true, false, List, ◌≡◌, length, get_or}
use Rattle.fit.specs.Reading.{highest, near}
use Rattle.fit.specs.Rule.{reading_at}
use Rattle.fit.specs.Refusal.{max_readings}
use Rattle.jumps.specs.Jumps.{earlier}

-- a recording, or a profile, of readings
abbrev pub Readings : List ℕ → Type 0
Readings y = (i : ℕ) → get_or y i 0 ≤ highest

-- "A jump of k from the window at s lands on s + k"
abbrev pub landing : ℕ → ℕ → ℕ
landing s k = s + k

-- the window at t is passed by a jump of k from the window at s: "passes s to s + k - 1" where `from` is 0, and "s + 1 to s + k - 1" where it is 1
pub record Passed (from k s t : ℕ) : Type 0 where
  pub since : s + from ≤ t
  pub before : t < landing s k

-- evidence: of the w readings from s on, the one at position q is as P q says
pub record Seen (P : ℕ → ℕ → Type 0) (w : ℕ) (y : List ℕ) (s : ℕ) : Type 0 where
  pub inside : s + w ≤ length y
  pub each : (q : ℕ) → q < w → P q (reading_at y s q)

-- first half: in no recording with the evidence is a passed place a match
abbrev pub NotTooLong : (List ℕ → ℕ → Type 0) → (List ℕ → ℕ → Type 0) → ℕ → ℕ → Type 0
NotTooLong IsPlace Evidence from k =
    (y : List ℕ) (s t : ℕ) → Readings y → Evidence y s → Passed from k s t → IsPlace y t → ⊥

-- second half: in some recording with the evidence, one that a search accepts, the landing place is a match
pub record Reaches (IsPlace Evidence : List ℕ → ℕ → Type 0) (k : ℕ) : Type 0 where
  pub y : List ℕ
  pub s : ℕ
  pub readings : Readings y
  pub short : length y ≤ max_readings
  pub evidence : Evidence y s
  pub place : IsPlace y (landing s k)

-- both halves, of a jump of `from` or more: the window that was tried is left
pub record Halves (IsPlace Evidence : List ℕ → ℕ → Type 0) (from k : ℕ) : Type 0 where
  pub onward : from ≤ k
  pub not_too_long : NotTooLong IsPlace Evidence from k
  pub reaches : Reaches IsPlace Evidence k

-- evidence can occur: some recording that a search accepts has it
pub record Occurs (Evidence : List ℕ → ℕ → Type 0) : Type 0 where
  pub y : List ℕ
  pub s : ℕ
  pub readings : Readings y
  pub short : length y ≤ max_readings
  pub evidence : Evidence y s

-- ---- the evidence of each rule
-- "the window's last reading is a"
abbrev pub LastIs : ℕ → ℕ → List ℕ → ℕ → Type 0
LastIs m a = Seen (λ q c. q ≡ m - 1 → c ≡ a) m

-- "the reading directly after the window is a, nothing more"
abbrev pub NextIs : ℕ → ℕ → List ℕ → ℕ → Type 0
NextIs m a = Seen (λ q c. q ≡ m → c ≡ a) (suc m)

module _ (d : ℕ) (x : List ℕ) where
  -- "the last reading is near x[m], nothing more"
  abbrev pub LastNear : List ℕ → ℕ → Type 0
  LastNear = Seen (λ q c. q ≡ length x - 1 → near d (get_or x (length x - 1) 0) c ≡ true) (length x)

  -- "those earlier points were near and p was not"
  pub record MismatchedAt (p q c : ℕ) : Type 0 where
    pub earlier_near : earlier d x q p ≡ true → near d (get_or x q 0) c ≡ true
    pub itself_far : q ≡ p → near d (get_or x q 0) c ≡ false

  abbrev pub Mismatch : ℕ → List ℕ → ℕ → Type 0
  Mismatch p = Seen (MismatchedAt p) (length x)

  -- "all m points were near"
  abbrev pub AllNear : List ℕ → ℕ → Type 0
  AllNear = Seen (λ q c. near d (get_or x q 0) c ≡ true) (length x)
