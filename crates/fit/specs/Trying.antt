-- Several windows tried one after the other: the counts, and what was lent. Assumes nothing.
use Rattle.std.specs.Prelude.{ℕ, zero, suc, ◌+◌, ◌≡◌, List, [], ◌∷◌}
use Rattle.fit.specs.Answer.{Sought, Lent, noted, listed}
use Rattle.fit.specs.declared.answer.Found.{Found}

unfoldable pub counts_after : Sought → List ℕ → Found → Found
counts_after t [] r = r
counts_after t (s ∷ ws) r = counts_after t ws (noted (t.place s) (t.sum s) r)

unfoldable pub lists_after : Sought → List ℕ → Found → Lent → Lent
lists_after t [] r l = l
lists_after t (s ∷ ws) r l = lists_after t ws (noted (t.place s) (t.sum s) r) (listed (t.place s) (t.sum s) s r.total l)

-- the windows ws were tried
pub record TriedAll (t : Sought) (ws : List ℕ) (before : Found) (entry : Lent) (r : Found) (final : Lent) : Type 0 where
  pub counts : r ≡ counts_after t ws before
  pub lists : final ≡ lists_after t ws before entry

-- k windows more were tried, and none of them is a place
abbrev pub missed : ℕ → Found → Found
missed k r = record { total = r.total; tried = r.tried + k; least = r.least }

-- the same places, and n windows tried
abbrev pub counted : Found → ℕ → Found
counted r n = record { total = r.total; tried = n; least = r.least }

-- the k windows from s on
unfoldable pub run : ℕ → ℕ → List ℕ
run s zero = []
run s (suc k) = s ∷ run (s + 1) k
