-- What stands beside the words. Assumes nothing.
use Rattle.std.specs.Prelude.{ℕ, ◌≡◌}
use Rattle.counters.specs.Masking.{AreSound}
use Rattle.counters.specs.declared.Masks.{Masks}

-- what holds of all masks, as the type says
abbrev pub Sound : Masks → Type 0
Sound k = AreSound k.b k.per k.g k.low k.top k.enter

-- sound masks of just these numbers
pub record LaidOut (b n g : ℕ) (k : Masks) : Type 0 where
  pub sound : Sound k
  pub b_is : k.b ≡ b
  pub per_is : k.per ≡ n
  pub g_is : k.g ≡ g
