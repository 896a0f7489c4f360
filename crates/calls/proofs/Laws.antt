-- What was read of a reader that says what it has is as much of it as there was room for. So there is no second result.
use Rattle.std.proofs.Common.{◌≡◌, ℕ, ◌≤◌, ◌<◌, List, [], ◌++◌, arith, length, take, sym, ap, ◌∙◌, append-nil, take_all, length-take-le}
use native.Mathlib.Decide.{dec_le}
use lib.Seq.{take-append-le}

pub all_read : (xs ys buf : List ℕ) (n : ℕ) → n ≤ length buf → xs ≡ take n buf ++ ys → (n < length buf → ys ≡ []) → take n buf ≡ take (length buf) xs
all_read xs ys buf n within split end = by_room (dec_le (length buf) n)
  where
    by_room : Dec (length buf ≤ n) → take n buf ≡ take (length buf) xs
    by_room (yes full) =
        let whole : take n buf ≡ buf = take_all n buf full in
        let some : length buf ≤ length (take n buf) = omega (arith, ap length whole) in
        whole ∙ sym (ap (take (length buf)) split ∙ take-append-le (length buf) (take n buf) ys some ∙ ap (take (length buf)) whole ∙ take_all (length buf) buf (omega arith))
    by_room (no less) =
        let same : xs ≡ take n buf = split ∙ ap (λ l. take n buf ++ l) (end (omega (arith, less))) ∙ append-nil (take n buf) in
        let short : length xs ≤ length buf = omega (arith, ap length same, length-take-le n buf within) in
        sym (take_all (length buf) xs short ∙ same)

pub no_second_reading : (xs ys zs buf other : List ℕ) (n k : ℕ) → length buf ≡ length other → n ≤ length buf → k ≤ length other
    → xs ≡ take n buf ++ ys → xs ≡ take k other ++ zs → (n < length buf → ys ≡ []) → (k < length other → zs ≡ []) → (n ≡ k) × (take n buf ≡ take k other)
no_second_reading xs ys zs buf other n k room within inside split parted end last =
    let same : take n buf ≡ take k other = all_read xs ys buf n within split end ∙ ap (λ m. take m xs) room ∙ sym (all_read xs zs other k inside parted last) in
    (omega (arith, ap length same, length-take-le n buf within, length-take-le k other inside), same)
