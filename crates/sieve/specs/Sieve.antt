-- Which of 64 windows fit: all their readings suit their points. Assumes nothing.
use Rattle.std.specs.Prelude.{ℕ, zero, suc, ◌+◌, ◌-◌, ◌/◌, Bool, true, false, cond, ◌&&◌, ◌||◌, List, Option, None, Some}
use lib.ListN.{replicate}
use Rattle.fit.specs.Rule.{reading_at}
use Rattle.fit.specs.Spans.{span_fits}

-- the mark of a window that passes a test
abbrev pub mark : Bool → ℕ
mark b = cond b 1 0

-- a number below k passes a test
unfoldable pub some : (ℕ → Bool) → ℕ → Bool
some p zero = false
some p (suc k) = some p k || p k

-- a, b and c suit the three points of pass i: these are the points i, m / 3 + i and m - 1 - i
abbrev pub pass : (ℕ → ℕ → Bool) → ℕ → ℕ → ℕ → ℕ → ℕ → Bool
pass fit m i a b c = fit i a && (fit (m / 3 + i) b && fit (m - 1 - i) c)

-- the window at t suits the points of the first k passes
unfoldable pub passes : (ℕ → ℕ → Bool) → ℕ → List ℕ → ℕ → ℕ → Bool
passes fit m y t zero = true
passes fit m y t (suc k) = passes fit m y t k && pass fit m k (reading_at y t k) (reading_at y t (m / 3 + k)) (reading_at y t (m - 1 - k))

-- the marks that are told, where none is set if there is no window that fits
abbrev pub marks_of : Option (List ℕ) → List ℕ
marks_of None = replicate 64 0
marks_of (Some marks) = marks

-- a is `least`, or one of the `more` readings that follow it
abbrev pub is_within : ℕ → ℕ → ℕ → Bool
is_within least more a = span_fits least (least + more) a
