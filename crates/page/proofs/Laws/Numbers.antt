-- Laws of numbers in decimal digits. Assumes nothing.
use Prim.Native.Nat.{ℕ, zero, suc, ◌+◌, ◌-◌, ◌/◌, ◌%◌, ◌^◌, ◌≤◌, ◌<◌}
use mathlib.Core.Bool.{cond}
use mathlib.Core.Path.{◌≡◌, refl, sym, ap, ◌∙◌}
use mathlib.Core.List.{List, [], ◌∷◌, ◌++◌}
use native.Mathlib.Omega.{arith}
use native.Mathlib.Decide.{dec_le}
use native.Mathlib.Nat.{le_refl, le_trans, add-zero, add-suc}
use lib.ListN.{length, length-append}
use lib.Dec.{ltb}
use borrow.Author.Tests.{lt-ltb, le-ltb}
use Rattle.io.specs.Digits.{hex_digit_ascii, last_digits, IsDigitCount}
use Rattle.std.specs.Fmt as Fmt
use Rattle.std.proofs.lemmas.Fmt.{decimal_by_steps}
use Rattle.page.specs.Put.{count_from, decimal}

-- ten to the smaller power is the smaller number
ten_rises : (j i : ℕ) → 10 ^ j ≤ 10 ^ (j + i)
ten_rises j zero = rw (add-zero j) (le_refl (10 ^ j))
ten_rises j (suc i) = rw (add-suc j i) (le_trans (ten_rises j i) (omega arith))

ten_more : (j : ℕ) → j < 10 ^ j
ten_more zero = omega arith
ten_more (suc j) = omega (arith, ten_more j)

-- a count of digits that x does not need is not the fewest
not_fewer : (x j k : ℕ) → 1 ≤ j → x < 10 ^ j → IsDigitCount 10 1 x k → k ≤ j
not_fewer x j k some enough few = by_order (dec_le k j)
  where
    by_order : Dec (k ≤ j) → k ≤ j
    by_order (yes h) = h
    by_order (no h) =
        let between : j + (k - 1 - j) ≡ k - 1 = omega (arith, h) in
        let rises : 10 ^ j ≤ 10 ^ (k - 1) = rw between at (ten_rises j (k - 1 - j)) in
        absurd (omega (arith, h, some, enough, few.2 (omega (arith, h, some)), rises))

-- and a count that holds x, where another does not, is the larger
needs_more : (x k c : ℕ) → 10 ^ k ≤ x → x < 10 ^ c → k < c
needs_more x k c less enough = by_order (dec_le c k)
  where
    by_order : Dec (c ≤ k) → k < c
    by_order (yes h) =
        let there : c + (k - c) ≡ k = omega (arith, h) in
        let rises : 10 ^ c ≤ 10 ^ k = rw there at (ten_rises c (k - c)) in
        absurd (omega (arith, less, enough, rises))
    by_order (no h) = omega (arith, h)

-- looked for from k on, in enough steps, the fewest digits are found
fewest_found : (f k x c : ℕ) → 1 ≤ k → k ≤ c → c ≤ k + f → IsDigitCount 10 1 x c → count_from f k x ≡ c
unfolding count_from
fewest_found zero k x c some from to few = omega (arith, from, to)
fewest_found (suc f) k x c some from to few =
    by_order (λ more. fewest_found f (suc k) x c (omega arith) more (omega (arith, to)) few) (dec_le (10 ^ k) x)
  where
    by_order : (k < c → count_from f (suc k) x ≡ c) → Dec (10 ^ k ≤ x) → cond (ltb x (10 ^ k)) k (count_from f (suc k) x) ≡ c
    by_order further (yes h) = rw (le-ltb x (10 ^ k) h) (further (needs_more x k c h few.1))
    by_order further (no h) = rw (lt-ltb x (10 ^ k) (omega (arith, h))) (omega (arith, from, not_fewer x k c some (omega (arith, h)) few))

few_enough : (x c : ℕ) → IsDigitCount 10 1 x c → c ≤ 1 + x
few_enough x c few = by_order (dec_le c 1)
  where
    by_order : Dec (c ≤ 1) → c ≤ 1 + x
    by_order (yes h) = omega (arith, h)
    by_order (no h) = omega (arith, h, few.2 (omega (arith, h)), ten_more (c - 1))

-- x has its fewest digits
fewest_digits : (x c : ℕ) → IsDigitCount 10 1 x c → last_digits 10 c x ≡ decimal x
unfolding decimal
fewest_digits x c few = ap (λ (n : ℕ). last_digits 10 n x) (sym (fewest_found x 1 x c (omega arith) few.0 (few_enough x c few) few))

-- ---- the digits that the library writes
record Counted (n : ℕ) (text : List ℕ) : Type 0 where
  count : ℕ
  few : IsDigitCount 10 1 n count
  made : text ≡ last_digits 10 count n

one_digit : (n : ℕ) → n < 10 → Counted n ((48 + n) ∷ [])
one_digit n h =
    let same : n % 10 ≡ n = omega (arith, h) in
    record {
      count = 1;
      few = (omega arith, omega (arith, h), λ l. omega (arith, l));
      made = rw (same, lt-ltb n 10 h);
    }

digit_more : (n : ℕ) (text : List ℕ) → 10 ≤ n → Counted (n / 10) text → Counted n (text ++ ((48 + n % 10) ∷ []))
digit_more n text h before = by_count before.count before.few before.made
  where
    by_count : (c : ℕ) → IsDigitCount 10 1 (n / 10) c → text ≡ last_digits 10 c (n / 10) → Counted n (text ++ ((48 + n % 10) ∷ []))
    by_count zero few made = absurd (omega (arith, few.0))
    by_count (suc c) few made = record {
      count = suc (suc c);
      few = (omega arith, omega (arith, few.1), λ l. let least : suc (suc c) - 1 ≡ suc c = omega arith in rw least (by_order (dec_le 1 c)));
      made = rw (made, lt-ltb (n % 10) 10 (omega arith));
    }
      where
        by_order : Dec (1 ≤ c) → 10 ^ suc c ≤ n
        by_order (yes some) =
            let one_less : suc c - 1 ≡ c = omega arith in
            omega (arith, rw one_less at (few.2 (omega (arith, some))))
        by_order (no none) = let first : c ≡ 0 = omega (arith, none) in rw first (omega (arith, h))

pub decimal_same : (x : ℕ) → x < 2 ^ 64 → Fmt.decimal x ≡ decimal x
decimal_same x l =
    let counted = decimal_by_steps Counted one_digit digit_more x l in
    counted.made ∙ fewest_digits x counted.count counted.few

-- ---- how many digits a number has
digits_long : (b k n : ℕ) → length (last_digits b k n) ≡ k
digits_long b zero n = refl
digits_long b (suc k) n = omega (arith, length-append (last_digits b k (n / b)) (hex_digit_ascii (n % b) ∷ []), digits_long b k (n / b))

count_short : (f k x j : ℕ) → k ≤ j → x < 10 ^ j → count_from f k x ≤ j
unfolding count_from
count_short zero k x j h l = h
count_short (suc f) k x j h l = by_order (λ more. count_short f (suc k) x j more l) (dec_le (10 ^ k) x)
  where
    by_order : (k < j → count_from f (suc k) x ≤ j) → Dec (10 ^ k ≤ x) → cond (ltb x (10 ^ k)) k (count_from f (suc k) x) ≤ j
    by_order further (yes more) = rw (le-ltb x (10 ^ k) more) (further (needs_more x k j more l))
    by_order further (no more) = rw (lt-ltb x (10 ^ k) (omega (arith, more))) h

pub decimal_short : (x j : ℕ) → 1 ≤ j → x < 10 ^ j → length (decimal x) ≤ j
unfolding decimal
decimal_short x j some l = rw (digits_long 10 (count_from x 1 x) x) (count_short x 1 x j some l)
