-- How wide a counter is. Assumes nothing.
use Rattle.std.specs.Prelude.{ℕ, zero, suc, ◌^◌, ◌≤◌, ◌<◌, cond, ltb}

-- "b the least with 2^b > g", as a fact
pub record Least (g b : ℕ) : Type 0 where
  pub room : g < 2 ^ b
  pub least : (k : ℕ) → g < 2 ^ k → b ≤ k

-- the first of b, b + 1, .. whose power of 2 is above g, after k steps at most
unfoldable pub least_from : ℕ → ℕ → ℕ → ℕ
least_from g zero b = b
least_from g (suc k) b = cond (ltb g (2 ^ b)) b (least_from g k (suc b))

-- that least b as a number: 2^g is above g, so g steps from 0 on are enough
unfoldable pub low_bits : ℕ → ℕ
low_bits g = least_from g g 0

-- "A counter is 1 + b bits wide"
abbrev pub width_of : ℕ → ℕ
width_of g = suc (low_bits g)
