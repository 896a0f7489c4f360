-- What the numbers of a word's masks owe one another. It is told of the numbers, since the type that has them holds it. Assumes nothing.
use Rattle.std.specs.Prelude.{ℕ, suc, ◌+◌, ◌-◌, ◌*◌, ◌^◌, ◌≤◌, ◌<◌, ◌≡◌}
use Rattle.counters.specs.Word.{word_bits, Laid}

-- the counters of a word, of b + 1 bits each, fit it, g fits b bits, each mask has its bits in every counter, and "one that enters at
-- point 1 starts at 2^b - (g + 1)"
pub record AreSound (b per g low top enter : ℕ) : Type 0 where
  pub some : 1 ≤ per
  pub narrow : b < 63
  pub fit : suc b * per ≤ word_bits
  pub room : g < 2 ^ b
  pub lows : Laid (suc b) per low (λ _. 2 ^ b - 1)
  pub tops : Laid (suc b) per top (λ _. 2 ^ b)
  pub start : enter + (g + 1) ≡ 2 ^ b
