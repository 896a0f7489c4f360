-- How many words there are at most. Assumes nothing.
use Rattle.std.specs.Prelude.{ℕ}

-- #104: "so 16 words serve"
abbrev pub max_words : ℕ
max_words = 16
