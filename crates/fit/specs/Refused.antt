-- A call that may be turned away answers a value, or the refusal; these are the numbers by which the documents tell it. Assumes nothing.
use Rattle.std.specs.Prelude.{ℕ, List, Result, Ok, Err, ◌≡◌, codes}
use Rattle.fit.specs.declared.refusal.Refusal.{Refusal}
use Rattle.fit.specs.declared.refusal.Refusal.TheVariants.{NoPoints, WideTolerance, ManyReadings, BadInput, OutOfRange, ManyPoints, ZeroPoint}

-- the number of each refusal
unfoldable pub number_of : Refusal → ℕ
number_of NoPoints = 1
number_of WideTolerance = 2
number_of ManyReadings = 3
number_of BadInput = 5
number_of OutOfRange = 6
number_of ManyPoints = 7
number_of ZeroPoint = 8

-- what each refusal says in words
unfoldable pub words_of : Refusal → List ℕ
words_of NoPoints = codes "the profile has no points"
words_of WideTolerance = codes "delta is above 255, or gamma above 16,320"
words_of ManyReadings = codes "the recording has more than 1,000,000 readings"
words_of BadInput = codes "the input is shorter than it says, or longer than 12,000 bytes"
words_of OutOfRange = codes "there is no such point or window"
words_of ManyPoints = codes "the profile has more than 64 points"
words_of ZeroPoint = codes "the profile holds a 0, which is no pressure"

-- the number of a call's refusal, and 0 where it is not refused
abbrev pub refusal_of : {A : Type 0} → Result A Refusal → ℕ
refusal_of (Ok v) = 0
refusal_of (Err e) = number_of e

-- what a call answers: a value of which P holds, and no reason applies; or the refusal that has the number of the first reason
abbrev pub Gives : {A : Type 0} → ℕ → (A → Type 0) → Result A Refusal → Type 0
Gives num P (Ok v) = (num ≡ 0) × P v
Gives num P (Err e) = number_of e ≡ num
