-- What a reading adds to the counter of a point. Assumes nothing.
use Rattle.std.specs.Prelude.{ℕ, ◌+◌, cond, List, get_or}
use Rattle.fit.specs.Reading.{diff, near}
use Rattle.counters.specs.Sums.{entering}

-- "adds the difference, or g + 1 where the reading is not near": point p and reading a
unfoldable pub added : ℕ → ℕ → ℕ → ℕ → ℕ
added d g p a = cond (near d p a) (diff p a) (g + 1)

-- the same at point i of the profile x
abbrev pub added_of : ℕ → ℕ → List ℕ → ℕ → ℕ → ℕ
added_of d g x i a = added d g (get_or x i 0) a

-- and with the counter c that enters at point 1 added too, which that point's counter then holds; at the others nothing enters
abbrev pub with_entering : ℕ → (ℕ → ℕ → ℕ) → ℕ → ℕ → ℕ
with_entering c cost i a = entering c i + cost i a
