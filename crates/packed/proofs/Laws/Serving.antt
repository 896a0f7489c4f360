-- #104: "the widest counter, 15 bits, puts four in a word, so 16 words serve": nothing that a search accepts has to be refused for its counters.
-- Assumes nothing.
use mathlib.Core.List.{List}
use Prim.Native.Nat.{ℕ, ◌≤◌}
use native.Mathlib.Omega.{arith}
use lib.ListN.{length}
use Rattle.fit.specs.Place.{g_of}
use Rattle.fit.specs.Refusal.{max_gamma, Asked}
use Rattle.counters.specs.Width.{low_bits, width_of}
use Rattle.counters.specs.Words.{per_word, Needed}
use Rattle.counters.proofs.Laws.Widths.{low_bits_least}
use Rattle.counters.proofs.Laws.Counts.{per_most, words_least, words_needed}
use Rattle.words.specs.Most.{max_words}
use Rattle.packed.specs.Needs.{words_of}

-- "the widest counter, 15 bits"
pub width_most : (g : ℕ) → g ≤ max_gamma → width_of g ≤ 15
width_most g h = let low : low_bits g ≤ 14 = (low_bits_least g).least 14 (omega arith) in omega arith

-- "puts four in a word"
pub four_to_a_word : (g : ℕ) → g ≤ max_gamma → 4 ≤ per_word (width_of g)
four_to_a_word g h = per_most (width_of g) 4 (omega arith) (omega (arith, width_most g h))

module _ (delta gamma : ℕ) (x : List ℕ) (ok : Asked delta gamma x) where
  abbrev per : ℕ
  per = per_word (width_of (g_of (length x) delta gamma))

  four : 4 ≤ per
  four = four_to_a_word (g_of (length x) delta gamma) (omega (arith, ok.gamma_small))

  -- "so 16 words serve", whatever is asked
  pub sixteen_serve : words_of delta gamma (length x) ≤ max_words
  sixteen_serve = words_least per (length x) (omega (arith, four)) max_words (omega (arith, four, ok.few))

  -- and they are just as many as needed
  pub just_needed : Needed per (length x) (words_of delta gamma (length x))
  just_needed = words_needed per (length x) (omega (arith, four)) ok.some
