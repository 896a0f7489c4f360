-- What a page holds. Assumes nothing.
use Rattle.std.specs.Prelude.{ℕ, zero, suc, ◌+◌, ◌-◌, ◌^◌, min, cond, ◌≡◌, List, length, ltb}
use Rattle.std.proofs.Math.Seq.{paste}
use Rattle.io.specs.Digits.{last_digits}

-- how many bytes of a text fit on a page from an index on
abbrev pub fits : List ℕ → ℕ → List ℕ → ℕ
fits page at text = min (length text) (length page - at)

-- the text stands on the page from index `at` on as far as it fits, all else is as it was, and `end` is where the text ends
pub record Put (page : List ℕ) (at : ℕ) (text : List ℕ) (end : ℕ) (after : List ℕ) : Type 0 where
  pub held : after ≡ paste page at text (fits page at text)
  pub ends : end ≡ at + fits page at text

-- the least count from k on, of f + 1 that are looked at, such that x is below that power of ten
unfoldable pub count_from : ℕ → ℕ → ℕ → ℕ
count_from zero k x = k
count_from (suc f) k x = cond (ltb x (10 ^ k)) k (count_from f (suc k) x)

-- x in decimal digits, one at least and no more than it takes; 1 + x counts are enough to look at, since x is below 10 ^ (1 + x)
unfoldable pub decimal : ℕ → List ℕ
decimal x = last_digits 10 (count_from x 1 x) x
