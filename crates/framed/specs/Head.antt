-- The head of a frame. Assumes nothing.
use Rattle.std.specs.Prelude.{ℕ, zero, suc, ◌+◌, ◌*◌, List, get_or}
use Rattle.framed.specs.declared.Head.{Head}

-- the number in the k bytes from an index on, high byte first; a byte that is missing counts as 0
unfoldable pub number_at : List ℕ → ℕ → ℕ → ℕ
number_at bytes from zero = 0
number_at bytes from (suc k) = number_at bytes from k * 256 + get_or bytes (from + k) 0

-- delta and gamma in 4 bytes each, m in 2, n in 4, room and sums in 2 each
unfoldable pub head_of : List ℕ → Head
head_of bytes =
    record {
      delta = number_at bytes 0 4;
      gamma = number_at bytes 4 4;
      m = number_at bytes 8 2;
      n = number_at bytes 10 4;
      room = number_at bytes 14 2;
      sums = number_at bytes 16 2;
    }
