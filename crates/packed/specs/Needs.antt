-- How many words the counters of a search take. Assumes nothing.
use Rattle.std.specs.Prelude.{ℕ, ◌*◌}
use Rattle.fit.specs.Place.{g_of}
use Rattle.counters.specs.Width.{width_of}
use Rattle.counters.specs.Words.{per_word, words_for}

-- "m times the counter width"
abbrev pub bits_of : ℕ → ℕ → ℕ → ℕ
bits_of delta gamma m = m * width_of (g_of m delta gamma)

-- #104: "whole counters into as many 64-bit words as needed"
abbrev pub words_of : ℕ → ℕ → ℕ → ℕ
words_of delta gamma m = words_for (per_word (width_of (g_of m delta gamma))) m
