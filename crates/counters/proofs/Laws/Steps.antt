-- One reading by the masks of a word of 64 bits, as the code has it. Assumes nothing.
use Prim.Native.Nat.{ℕ, suc, ◌+◌, ◌^◌, ◌<◌}
use native.Mathlib.Nat.{lt_of_lt_of_le}
use native.Mathlib.Numerals.{add-one}
use lib.Pow.{pow_mono}
use lib.Bits.{bit_and}
use mir.Syntax.{w64}
use mir.Val.{Fits}
use Rattle.counters.specs.Word.{word_bits, counter}
use Rattle.counters.specs.Sums.{Small, Turned}
use Rattle.counters.specs.Sound.{Sound}
use Rattle.counters.specs.declared.Masks.{Masks}
use Rattle.counters.proofs.Laws.Growth.{raised, word_grown, sum_fits, turned}

module _ (k : Masks) (add : ℕ) (ok : Sound k) (small : Small k.b k.per add) where
  -- the addition does not wrap
  pub no_wrap : (d : ℕ) → Fits w64 (bit_and d k.low + add)
  no_wrap d = record {
    fits =
        lt_of_lt_of_le (sum_fits k.b k.g k.per word_bits k.low k.top add ok.fit ok.lows ok.tops small d) (pow_mono ok.fit);
  }

  pub turned_by : (word carry : ℕ) → carry < 2 ^ suc k.b
      → Turned k.b k.g k.per word carry (counter (suc k.b) add) (word_grown (raised (k.b + 1) word_bits word carry) k.low k.top add)
  turned_by word carry h =
      rw (add-one k.b) (turned k.b k.g k.per word_bits k.low k.top add ok.fit ok.lows ok.tops small word carry h)
