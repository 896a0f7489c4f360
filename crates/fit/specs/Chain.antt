-- A chain of reasons to turn a call away, in the order in which they are written. Assumes nothing.
use Rattle.std.specs.Prelude.{ℕ, Bool, true, false, cond, List, [], ◌∷◌, ◌++◌, ◌≡◌}

-- a reason: its number, and whether it applies
pub record Reason : Type 0 where
  pub number : ℕ
  pub applies : Bool

-- the number of the first reason that applies, and 0 where none does
abbrev pub first_reason : List Reason → ℕ
first_reason [] = 0
first_reason (reason ∷ later) = cond reason.applies reason.number (first_reason later)

-- none of the reasons applies
abbrev pub NoneApplies : List Reason → Type 0
NoneApplies [] = Unit {0}
NoneApplies (reason ∷ later) = (reason.applies ≡ false) × NoneApplies later

-- a number is that of the first reason in the written order: the reason applies, and none that is written before it does
pub record FirstInOrder (chain : List Reason) (num : ℕ) : Type 0 where
  pub before : List Reason
  pub reason : Reason
  pub after : List Reason
  pub written : chain ≡ before ++ (reason ∷ after)
  pub none_before : NoneApplies before
  pub applies : reason.applies ≡ true
  pub number : reason.number ≡ num
