-- Laws of the points that a word marks: point by point, from the highest, and how many; and of the words of all readings. Assumes nothing.
use mathlib.Core.Path.{◌≡◌, refl, sym, ap, ◌∙◌, subst}
use mathlib.Core.Bool.{Bool, true, false, cond, ◌||◌}
use mathlib.Core.List.{List, [], ◌∷◌, ◌++◌}
use mathlib.Core.Logic.{⊎_elim}
use Prim.Native.Nat.{ℕ, zero, suc, ◌+◌, ◌-◌, ◌*◌, ◌/◌, ◌%◌, ◌^◌, ◌≤◌, ◌<◌, min}
use native.Mathlib.Nat.{one-mul, pow-suc, not-suc-le-zero, mod-lt, mod-one, mod-eq_of_lt}
use native.Mathlib.Numerals.{add-one}
use native.Mathlib.Omega.{arith}
use lib.ListN.{length, get_or, set, replicate, length-replicate, get_or-replicate, length-append}
use lib.Dec.{eqb, leb, lit<}
use lib.Pow.{pow_pos, pow_mono, low, mod-mod-pow, mod-pow-add}
use lib.Bits.{bit_or, or_lt}
use lib.Count.{ones, ones_cat}
use borrow.Author.Count.{below_more}
use borrow.Author.Tests.{leb-true, le-leb}
use Rattle.fit.specs.Listing.{up_to, Entries}
use Rattle.fit.specs.Spans.{span_fits}
use Rattle.fit.proofs.Laws.Bools.{le_or_lt, and_left, and_right, and_both, or_right, is_false}
use Rattle.fit.proofs.Laws.Entries.{Rewritten, rewritten_from, rewritten_next, rewritten_to}
use Rattle.fit.proofs.Laws.Uniques.{same_lists}
use Rattle.marks.specs.Marks.{readings, bit, Marks, MarkTable, Highest, with_mark}
use Rattle.marks.proofs.Laws.Bits.{bit_digit, bit_cut, bit_above, zero_bit, bit_top, bit_power, bit_under, bit_or_lem, same_word}

-- no second word marks the same
pub no_second_marks : (m : ℕ) (test : ℕ → Bool) (w v : ℕ) → Marks m test w → Marks m test v → w ≡ v
no_second_marks m test w v a b = same_word m w v a.bound b.bound (λ i h. a.each i h ∙ sym (b.each i h))

-- ---- point by point
marks_none : (test : ℕ → Bool) → Marks 0 test 0
marks_none test = record { bound = pow_pos 0; each = λ i h. absurd (not-suc-le-zero h) }

or_false : (b : Bool) → (b || false) ≡ b
or_false true = refl
or_false false = refl

-- the mark of point i, put to those of the points below
marked_here : (w i : ℕ) → bit (bit_or w (2 ^ i)) i ≡ true
marked_here w i = bit_or_lem w (2 ^ i) i ∙ ap (λ (b : Bool). bit w i || b) (bit_power i) ∙ or_right (bit w i) true refl

marked_below : (w i j : ℕ) → j < i → bit (bit_or w (2 ^ i)) j ≡ bit w j
marked_below w i j h =
    let none : bit (2 ^ i) j ≡ false = rw one-mul at (bit_under 1 i j h) in
    bit_or_lem w (2 ^ i) j ∙ ap (λ (b : Bool). bit w j || b) none ∙ or_false (bit w j)

wider : (i w : ℕ) → w < 2 ^ i → w < 2 ^ (i + 1)
wider i w h = rw add-one (omega (arith, pow-suc 2 i))

marks_more : (test : ℕ → Bool) (i w : ℕ) → Marks i test w → Marks (i + 1) test (with_mark (test i) i w)
marks_more test i w m = by_test (test i) refl
  where
    by_test : (b : Bool) → test i ≡ b → Marks (i + 1) test (with_mark b i w)
    by_test true e = record {
      bound = or_lt (i + 1) w (2 ^ i) (wider i w m.bound) (rw add-one (omega (arith, pow-suc 2 i, pow_pos i)));
      each = below_more (λ (j : ℕ). bit (bit_or w (2 ^ i)) j ≡ test j) i (λ j l. marked_below w i j l ∙ m.each j l) (marked_here w i ∙ sym e);
    }
    by_test false e = record {
      bound = wider i w m.bound;
      each = below_more (λ (j : ℕ). bit w j ≡ test j) i m.each (bit_above w i i m.bound (omega arith) ∙ sym e);
    }

-- ---- one point, for the readings of its span: from `low` on, up to the last that is a reading
module _ (table₀ : List ℕ) (low high i : ℕ) where
  abbrev old : ℕ → ℕ
  old a = get_or table₀ a 0

  abbrev new : ℕ → ℕ
  new a = with_mark (span_fits low high a) i (get_or table₀ a 0)

  stays : (a : ℕ) → (span_fits low high a ≡ true → ⊥) → old a ≡ new a
  stays a h = rw (is_false (span_fits low high a) h)

  pub span_start : length table₀ ≡ readings → Rewritten old new readings table₀ low
  span_start long =
      rewritten_from old new readings low
      (λ k h b. stays k (λ e. omega (arith, leb-true low k (and_left (leb low k) (leb k high) e))))
      (record { long = long; each = λ k b. refl })

  pub span_next : (a v : ℕ) {table : List ℕ} → low ≤ a → a < min (high + 1) readings → Rewritten old new readings table a
      → v ≡ bit_or (get_or table a 0) (2 ^ i) → Rewritten old new readings (set table a v) (a + 1)
  span_next a v {table} from h r e =
      let here : a < readings = omega arith in
      let fits : span_fits low high a ≡ true = and_both (leb low a) (leb a high) (le-leb low a from) (le-leb a high (omega arith)) in
      rewritten_next old new readings a v here r (e ∙ ap (λ (w : ℕ). bit_or w (2 ^ i)) (r.left a (omega arith) here) ∙ rw fits)

  pub span_end : (a : ℕ) {table : List ℕ} → min (high + 1) readings ≤ a → Rewritten old new readings table a → Entries new readings table
  span_end a h r = rewritten_to old new readings a (λ k l b. stays k (λ e. omega (arith, leb-true k high (and_right (leb low k) (leb k high) e)))) r

-- ---- the words of all readings
pub table_none : (fit : ℕ → ℕ → Bool) → MarkTable 0 fit (replicate readings 0)
table_none fit = record {
  long = length-replicate {A = ℕ} readings 0;
  word = λ a h. subst (Marks 0 (λ i. fit i a)) (sym (get_or-replicate {A = ℕ} readings a 0 0 h)) (marks_none (λ i. fit i a));
}

pub table_more : (fit : ℕ → ℕ → Bool) (i : ℕ) (table table' : List ℕ) → MarkTable i fit table
    → Entries (λ (a : ℕ). with_mark (fit i a) i (get_or table a 0)) readings table' → MarkTable (i + 1) fit table'
table_more fit i table table' m e = record {
  long = e.long;
  word = λ a h. subst (Marks (i + 1) (λ j. fit j a)) (sym (e.each a h)) (marks_more (λ j. fit j a) i (get_or table a 0) (m.word a h));
}

-- the word that is looked up
pub table_word : (m : ℕ) (fit : ℕ → ℕ → Bool) (table : List ℕ) (a w : ℕ) → MarkTable m fit table → (w ≡ get_or table a 0) × (a < readings) → Marks m (λ i. fit i a) w
table_word m fit table a w t e = subst (Marks m (λ i. fit i a)) (sym e.0) (t.word a e.1)

-- no second table
pub no_second_table : (m : ℕ) (fit : ℕ → ℕ → Bool) (t t' : List ℕ) → MarkTable m fit t → MarkTable m fit t' → t ≡ t'
no_second_table m fit t t' a b =
    same_lists t t' (a.long ∙ sym b.long)
    (λ j h. no_second_marks m (λ i. fit i j) (get_or t j 0) (get_or t' j 0) (a.word j (omega (arith, a.long))) (b.word j (omega (arith, a.long))))

-- ---- from the highest: what is left of a word, once the points from k on are taken
pub record Top (w k point left : ℕ) : Type 0 where
  pub below : point < k
  pub marked : bit w point ≡ true
  pub clear : (i : ℕ) → point < i → i < k → bit w i ≡ false
  pub rest : left ≡ w % 2 ^ point

pub highest_top : (w k cut point left : ℕ) → cut ≡ w % 2 ^ k → Highest cut point left → Top w k point left
highest_top w k cut point left e h =
    let room : cut < 2 ^ k = rw e (mod-lt w (pow_pos k)) in
    let under : point < k = lt_of_pow room h.reached in
    let part : 1 * 2 ^ point + (cut - 2 ^ point) ≡ cut = omega (arith, one-mul (2 ^ point), h.reached) in
    let small : cut - 2 ^ point < 2 ^ point = omega (arith, rw add-one at h.none_above, pow-suc 2 point) in
    let whole : k - point + point ≡ k = omega arith in
    record {
      below = under;
      marked = sym (bit_cut w k point under) ∙ ap (λ (n : ℕ). bit n point) (sym e) ∙ rw part at (bit_top (cut - 2 ^ point) point small);
      clear = λ i l b. sym (bit_cut w k i b) ∙ ap (λ (n : ℕ). bit n i) (sym e) ∙ bit_above cut (point + 1) i h.none_above (omega arith);
      rest = h.without ∙ sym (low 1 point small) ∙ ap (λ (n : ℕ). n % 2 ^ point) (part ∙ e) ∙ rw whole at (mod-mod-pow w (k - point) point);
    }
  where
    lt_of_pow : cut < 2 ^ k → 2 ^ point ≤ cut → point < k
    lt_of_pow room reached = ⊎_elim (λ (q : k ≤ point). absurd (omega (arith, pow_mono q))) (λ (q : point < k). q) (le_or_lt k point)

-- no second point is the highest
pub no_second_highest : (w point left point' left' : ℕ) → Highest w point left → Highest w point' left' → (point ≡ point') × (left ≡ left')
no_second_highest w point left point' left' a b =
    let same : point ≡ point' = omega (arith, not_above point point' b.reached a.none_above, not_above point' point a.reached b.none_above) in
    (same, a.without ∙ ap (λ (k : ℕ). w - 2 ^ k) same ∙ sym b.without)
  where
    not_above : (i j : ℕ) → 2 ^ j ≤ w → w < 2 ^ (i + 1) → j ≤ i
    not_above i j reached above =
        ⊎_elim (λ (h : j ≤ i). h)
        (λ (h : i < j). let up : i + 1 ≤ j = omega arith in absurd (omega (arith, reached, above, pow_mono up))) (le_or_lt j i)

-- all are left of a word of k points, and none is marked where none is left
pub top_all : (w k : ℕ) → w < 2 ^ k → w ≡ w % 2 ^ k
top_all w k h = sym (mod-eq_of_lt h)

pub none_left : (w k i : ℕ) → w % 2 ^ k ≡ 0 → i < k → bit w i ≡ false
none_left w k i e h = sym (bit_cut w k i h) ∙ ap (λ (n : ℕ). bit n i) e ∙ zero_bit i

-- ---- a word has as many ones as it marks points
ones_digit : (x n : ℕ) → x < 2 → ones x + n ≡ cond (eqb x 1) (suc n) n
unfolding ones
ones_digit zero n h = omega arith
ones_digit (suc zero) n h = omega arith
ones_digit (suc (suc x)) n h = absurd (omega arith)

ones_none : (w : ℕ) → ones (w % 2 ^ 0) ≡ 0
unfolding ones
ones_none w = ap ones (mod-one w)

ones_more : (w k : ℕ) → ones (w % 2 ^ suc k) ≡ cond (bit w k) (suc (ones (w % 2 ^ k))) (ones (w % 2 ^ k))
ones_more w k =
    let e : suc k ≡ 1 + k = omega arith in
    ap (λ (n : ℕ). ones (w % 2 ^ n)) e ∙ ap ones (mod-pow-add w 1 k) ∙ ones_cat k (w / 2 ^ k % 2 ^ 1) (w % 2 ^ k) (mod-lt w (pow_pos k))
    ∙ ones_digit (w / 2 ^ k % 2) (ones (w % 2 ^ k)) (mod-lt (w / 2 ^ k) (lit< tt))
    ∙ ap (λ (b : Bool). cond b (suc (ones (w % 2 ^ k))) (ones (w % 2 ^ k))) (bit_digit w k)

ones_up : (test : ℕ → Bool) (w k : ℕ) → ((i : ℕ) → i < k → bit w i ≡ test i) → ones (w % 2 ^ k) ≡ length (up_to test k)
unfolding up_to
ones_up test w zero h = ones_none w
ones_up test w (suc k) h =
    ones_more w k ∙ ap (λ (b : Bool). cond b (suc (ones (w % 2 ^ k))) (ones (w % 2 ^ k))) (h k (omega arith))
    ∙ by_test (test k) (ones_up test w k (λ i l. h i (omega arith)))
  where
    by_test : (b : Bool) → ones (w % 2 ^ k) ≡ length (up_to test k)
        → cond b (suc (ones (w % 2 ^ k))) (ones (w % 2 ^ k)) ≡ length (cond b (up_to test k ++ (k ∷ [])) (up_to test k))
    by_test true e = omega (arith, e, length-append (up_to test k) (k ∷ []))
    by_test false e = e

pub marks_count : (m : ℕ) (test : ℕ → Bool) (w : ℕ) → Marks m test w → ones w ≡ length (up_to test m)
marks_count m test w a = ap ones (top_all w m a.bound) ∙ ones_up test w m a.each
