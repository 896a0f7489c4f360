-- How far a test holds along a list. Assumes nothing.
use Rattle.std.specs.Prelude.{ℕ, suc, Bool, cond, List, [], ◌∷◌}

-- how many entries at the head of a list pass
unfoldable pub leading : (ℕ → Bool) → List ℕ → ℕ
leading test [] = 0
leading test (q ∷ l) = cond (test q) (suc (leading test l)) 0
