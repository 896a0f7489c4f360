-- A table of columns, of which a chain is found back: a column for each position, with 64 numbers. Assumes nothing.
use Rattle.std.specs.Prelude.{ℕ, ◌+◌, ◌*◌, List, get_or}
use Rattle.fit.specs.Refusal.{max_points}

-- what the table holds for point i at position h
abbrev pub cell_at : List ℕ → ℕ → ℕ → ℕ
cell_at table i h = get_or table (h * max_points + i) 0
