-- Laws of lines. Assumes nothing.
use Prim.Native.Nat.{ℕ, zero, suc, ◌+◌, ◌*◌, ◌^◌, ◌≤◌, ◌<◌}
use mathlib.Core.Path.{◌≡◌, refl, sym, ap, ◌∙◌}
use mathlib.Core.List.{List, [], ◌∷◌, ◌++◌, append_assoc, append-nil, Memᴰ}
use native.Mathlib.Numerals.{add-one}
use native.Mathlib.Omega.{arith}
use lib.ListN.{length, get_or, take, length-append}
use lib.Seq.{take-suc}
use Rattle.fit.specs.declared.answer.Search.{Search}
use Rattle.page.specs.Put.{decimal}
use Rattle.page.specs.Puts.{Puts}
use Rattle.page.specs.declared.Page.{Page}
use Rattle.page.proofs.Laws.Pages.{puts_both, puts_none}
use Rattle.page.proofs.Laws.Numbers.{decimal_short}
use Rattle.lines.specs.Lines.{space, line_end, refused_word, ended, counts_line, refused_line, line_by, line_of, lines_of}

-- ---- the line of a searcher, refused or not
module _ (name : List ℕ) (r : Search) {p q : Page} where
  pub line_refused : (r.refusal ≡ 0 → ⊥) → Puts p (refused_line name r.refusal) q → Puts p (line_of name r) q
  unfolding line_by
  line_refused some h = by_number r.refusal some h
    where
      by_number : (num : ℕ) → (num ≡ 0 → ⊥) → Puts p (refused_line name num) q → Puts p (line_by num name r) q
      by_number zero h k = absurd (h refl)
      by_number (suc num) h k = k

  pub line_counted : r.refusal ≡ 0 → Puts p (counts_line name r.total r.tried) q → Puts p (line_of name r) q
  unfolding line_by
  line_counted none h = rw none h

-- ---- the places, one to a line
lines_behind : (ps : List ℕ) (p : ℕ) → lines_of (ps ++ (p ∷ [])) ≡ lines_of ps ++ ended p
unfolding lines_of
lines_behind [] p = append-nil (ended p)
lines_behind (q ∷ ps) p = ap (λ (l : List ℕ). ended q ++ l) (lines_behind ps p) ∙ sym (append_assoc (ended q) (lines_of ps) (ended p))

-- before the first place nothing is put
pub no_line : (p : Page) → Puts p (lines_of []) p
unfolding lines_of
no_line p = puts_none p

-- one place more
pub one_more_line : (ps : List ℕ) (i s : ℕ) {p q r : Page} → i < length ps → s ≡ get_or ps i 0
    → Puts p (lines_of (take i ps)) q → Puts q (ended s) r → Puts p (lines_of (take (i + 1) ps)) r
one_more_line ps i s inside e h k = rw (add-one i, take-suc ps i 0 inside, ← e, lines_behind (take i ps) s) (puts_both (lines_of (take i ps)) (ended s) h k)

-- ---- how long lines are, of numbers below a million and of places below 100,000
ended_short : (x j : ℕ) → 1 ≤ j → x < 10 ^ j → length (ended x) ≤ j + 1
ended_short x j some l = omega (arith, decimal_short x j some l, length-append (decimal x) line_end)

module _ (name : List ℕ) where
  counts_short : (total tried : ℕ) → total < 10 ^ 6 → tried < 10 ^ 6 → length (counts_line name total tried) ≤ length name + 15
  counts_short total tried h l =
      omega
      (arith, ended_short tried 6 (omega arith) l, decimal_short total 6 (omega arith) h, length-append name space, length-append (name ++ space) (decimal total), length-append (name ++ space ++ decimal total) space, length-append (name ++ space ++ decimal total ++ space) (ended tried))

  pub refused_short : (num : ℕ) → num < 10 ^ 6 → length (refused_line name num) ≤ length name + 16
  refused_short num l =
      omega (arith, ended_short num 6 (omega arith) l, length-append name refused_word, length-append (name ++ refused_word) (ended num))

  pub line_short : (r : Search) → r.refusal < 10 ^ 6 → r.total < 10 ^ 6 → r.tried < 10 ^ 6 → length (line_of name r) ≤ length name + 16
  unfolding line_by
  line_short r a b c = by_number r.refusal a
    where
      by_number : (num : ℕ) → num < 10 ^ 6 → length (line_by num name r) ≤ length name + 16
      by_number zero h = omega (arith, counts_short r.total r.tried b c)
      by_number (suc num) h = refused_short (suc num) h

pub lines_short : (ps : List ℕ) → ((s : ℕ) → Memᴰ s ps → s < 10 ^ 5) → length (lines_of ps) ≤ 6 * length ps
unfolding lines_of
lines_short [] h = omega arith
lines_short (p ∷ ps) h =
    omega
    (arith, ended_short p 5 (omega arith) (h p (Memᴰ.head refl)), lines_short ps (λ s m. h s (Memᴰ.tail m)), length-append (ended p) (lines_of ps))
