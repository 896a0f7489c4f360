-- "the least sum over all places (0 when there are none, and on refusal)" (document 02, #107). Assumes nothing.
use Rattle.std.specs.Prelude.{ℕ, zero, suc, min, List, [], ◌∷◌}

-- the least of some numbers; of none, 0
unfoldable pub least_of : List ℕ → ℕ
least_of [] = 0
least_of (v ∷ []) = v
least_of (v ∷ w ∷ vs) = min v (least_of (w ∷ vs))

-- the least of `count` numbers and one more, where `least` is theirs
unfoldable pub lowered : ℕ → ℕ → ℕ → ℕ
lowered zero least v = v
lowered (suc count) least v = min least v
