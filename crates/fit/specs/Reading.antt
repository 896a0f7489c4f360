-- Readings, their differences, and when two of them are near. Assumes nothing.
-- Throughout, points and positions count from 0: point number p of document 01, x[p], is point p - 1 here.
use Rattle.std.specs.Prelude.{ℕ, ◌+◌, ◌-◌, Bool, ◌&&◌, leb}

-- "A reading is a whole number 0 to 255", and "Zero is no pressure reading" (#103): the sensor writes 0 "when it has lost contact". The least
-- reading that tells a pressure, and the greatest
unfoldable pub lowest : ℕ
lowest = 1

abbrev pub highest : ℕ
highest = 255

-- the difference |a - b|
abbrev pub diff : ℕ → ℕ → ℕ
diff a b = a - b + (b - a)

-- two points differ by at most k, as in "|x[i] - x[m]| at most 2d"
unfoldable pub alike : ℕ → ℕ → ℕ → Bool
alike k p q = leb (diff p q) k

-- "Two readings are near when they differ by at most d", and "0 is near to no point" (#103): point p and reading a
unfoldable pub near : ℕ → ℕ → ℕ → Bool
unfolding lowest
near d p a = leb lowest a && leb (diff p a) d
