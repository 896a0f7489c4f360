-- Laws of marks, and of whether any window has one. Assumes nothing.
use mathlib.Core.Path.{◌≡◌, refl}
use mathlib.Core.Bool.{Bool, true, false, cond, not, ◌&&◌, ◌||◌}
use mathlib.Core.Logic.{⊎_elim}
use Prim.Native.Nat.{ℕ, zero, suc, ◌<◌, max}
use lib.Dec.{eqb}
use native.Mathlib.Nat.{not-suc-le-zero, eq-or-lt_of_le}
use native.Mathlib.Omega.{arith}
use Rattle.fit.proofs.Laws.Bools.{not_both}
use Rattle.sieve.specs.Sieve.{mark, some}

pub max_marks : (a b : Bool) → max (mark a) (mark b) ≡ mark (a || b)
max_marks true true = refl
max_marks true false = refl
max_marks false true = refl
max_marks false false = refl

pub kept_mark : (a b : Bool) → cond b (mark a) 0 ≡ mark (a && b)
kept_mark true true = refl
kept_mark true false = refl
kept_mark false true = refl
kept_mark false false = refl

pub mark_set : (v : ℕ) (b : Bool) → v ≡ mark b → not (eqb v 0) ≡ b
mark_set v true e = rw e
mark_set v false e = rw e

-- ---- a number below k passes a test, or none does
or_left_false : (a b : Bool) → (a || b) ≡ false → a ≡ false
or_left_false true b e = e
or_left_false false b e = refl

or_right_false : (a b : Bool) → (a || b) ≡ false → b ≡ false
or_right_false true b e = absurd (not_both refl e)
or_right_false false b e = e

pub none_some : (p : ℕ → Bool) (k : ℕ) → some p k ≡ false → (j : ℕ) → j < k → p j ≡ false
unfolding some
none_some p zero e j h = absurd (not-suc-le-zero h)
none_some p (suc k) e j h =
    ⊎_elim (λ (z : j ≡ k). rw z (or_right_false (some p k) (p k) e)) (λ (z : j < k). none_some p k (or_left_false (some p k) (p k) e) j z)
    (eq-or-lt_of_le (omega arith))

pub some_none : (p : ℕ → Bool) (k : ℕ) → ((j : ℕ) → j < k → p j ≡ false) → some p k ≡ false
unfolding some
some_none p zero h = refl
some_none p (suc k) h = rw (h k (omega arith), some_none p k (λ j l. h j (omega arith)))

pub some_same : (p q : ℕ → Bool) (k : ℕ) → ((j : ℕ) → j < k → p j ≡ q j) → some p k ≡ some q k
unfolding some
some_same p q zero h = refl
some_same p q (suc k) h = rw (h k (omega arith), some_same p q k (λ j l. h j (omega arith)))
