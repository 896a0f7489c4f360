-- What the parse of an input answers, refused or not. Assumes nothing.
use Rattle.std.specs.Prelude.{ℕ, ◌≡◌, List, [], length, Result, Ok, Err}
use Rattle.input.specs.declared.Input.{Input}
use Rattle.fit.specs.Refused.{number_of}
use Rattle.fit.specs.declared.refusal.Refusal.{Refusal}
use Rattle.input.specs.Inputs.{Front, front_of, points_in, recording_in}

-- the numbers in front, or the refusal's and zeros
abbrev pub front_told : Result Input Refusal → Front
front_told (Ok i) = record { refusal = 0; delta = i.delta; gamma = i.gamma; m = length i.points.now }
front_told (Err r) = record { refusal = number_of r; delta = 0; gamma = 0; m = 0 }

-- the points, and the recording; nothing where the input is refused
abbrev pub points_told : Result Input Refusal → List ℕ
points_told (Ok i) = i.points.now
points_told (Err r) = []

abbrev pub recording_told : Result Input Refusal → List ℕ
recording_told (Ok i) = i.recording.now
recording_told (Err r) = []

pub record Parsed (input : List ℕ) (r : Result Input Refusal) : Type 0 where
  pub front : front_told r ≡ front_of input
  pub points : points_told r ≡ points_in input
  pub recording : recording_told r ≡ recording_in input
