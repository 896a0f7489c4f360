-- The greatest point and the least jump that pass a test. Assumes nothing.
use Rattle.std.specs.Prelude.{ℕ, zero, suc, Bool, true, false, cond, ◌&&◌, ◌||◌}

-- of the first n points the greatest that passes, by document 01's number (from 1); 0 if there is none
unfoldable pub greatest : (ℕ → Bool) → ℕ → ℕ
greatest ok zero = 0
greatest ok (suc i) = cond (ok i) (suc i) (greatest ok i)

-- of k, k + 1 and so on the least that passes; k + n if the n numbers from k on fail
unfoldable pub least : (ℕ → Bool) → ℕ → ℕ → ℕ
least test k zero = k
least test k (suc n) = cond (test k) k (least test (suc k) n)

-- every number below n passes
unfoldable pub all_below : (ℕ → Bool) → ℕ → Bool
all_below test zero = true
all_below test (suc n) = all_below test n && test n

-- some number below n passes
unfoldable pub some_below : (ℕ → Bool) → ℕ → Bool
some_below test zero = false
some_below test (suc n) = some_below test n || test n
