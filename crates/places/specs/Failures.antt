-- Why no whole report was written.
use Rattle.std.specs.Prelude.{⊤}
use Rattle.places.specs.declared.failure.Failure.{Failure}
use Rattle.places.specs.declared.failure.Failure.TheVariants.{Reading, Writing}

-- the input was not read to its end
abbrev pub IsReading : Failure → Type 0
IsReading (Reading cause) = ⊤
IsReading (Writing cause) = ⊥
