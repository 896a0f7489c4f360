-- Walks: which windows a searcher tries, in order. Assumes nothing.
use Rattle.std.specs.Prelude.{ℕ, zero, suc, ◌+◌, Bool, true, cond, List, [], ◌∷◌, ltb}

-- a walk that stands at s, for k steps at most: "it ends when its next window would not lie inside the recording", that is, be below
-- `count`; the window at s is tried where `tries s`, and the walk goes on at `next s`
unfoldable pub walk_by : (ℕ → Bool) → (ℕ → ℕ) → ℕ → ℕ → ℕ → List ℕ
walk_by tries next count zero s = []
walk_by tries next count (suc k) s =
    cond (ltb s count) (cond (tries s) (s ∷ walk_by tries next count k (next s)) (walk_by tries next count k (next s))) []

-- the windows tried from the window at 0 on: every step goes forward, so `count` steps are enough
unfoldable pub walk : (ℕ → Bool) → (ℕ → ℕ) → ℕ → List ℕ
walk tries next count = walk_by tries next count count 0

-- "plain tries every window"
abbrev pub every_window : ℕ → List ℕ
every_window count = walk (λ s. true) (λ s. s + 1) count
