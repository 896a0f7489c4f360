-- No second table satisfies the statement of `additions`. Assumes nothing.
use mathlib.Core.Path.{◌≡◌, sym, ap, ◌∙◌}
use mathlib.Core.Logic.{⊎_elim}
use mathlib.Core.List.{List}
use Prim.Native.Nat.{ℕ, suc, ◌+◌, ◌-◌, ◌*◌, ◌/◌, ◌%◌, ◌≤◌, ◌<◌}
use native.Mathlib.Nat.{div-add-mod', mod-lt, div-lt_iff_lt-mul}
use native.Mathlib.Omega.{arith}
use lib.ListN.{get_or}
use lib.Seq.{ext_get_or, get_or-drop}
use Rattle.fit.specs.Reading.{highest}
use Rattle.counters.proofs.Laws.Widths.{le_or_lt}
use Rattle.counters.proofs.Laws.Firm.{no_second_words}
use Rattle.adding.specs.Tables.{row_of, padded, TabledIn}
use Rattle.adding.proofs.Laws.Filling.{row_length, row_at}

module _ (l n k m : ℕ) (cost : ℕ → ℕ → ℕ) (entry t t' : List ℕ) (some : 1 ≤ k) (h : TabledIn l n k m cost entry t) (h' : TabledIn l n k m cost entry t') where
  -- the words of a reading, one by one
  in_front : (q : ℕ) → q < suc highest * k → get_or t q 0 ≡ get_or t' q 0
  in_front q r =
      let byte : q / k < suc highest = (div-lt_iff_lt-mul some).1 r in
      let at : q / k * k + q % k ≡ q = div-add-mod' q k in
      let rows : row_of k t (q / k) ≡ row_of k t' (q / k) =
      no_second_words l n (row_of k t (q / k)) (row_of k t' (q / k)) (padded m (λ i. cost i (q / k)))
      (row_length k t (q / k) h.tabled.long byte ∙ sym (row_length k t' (q / k) h'.tabled.long byte))
      (h.tabled.each (q / k) byte) (h'.tabled.each (q / k) byte) in
      ap (λ (i : ℕ). get_or t i 0) (sym at)
      ∙ sym (row_at k t (q / k) h.tabled.long byte (q % k) (mod-lt q some))
      ∙ ap (λ (ws : List ℕ). get_or ws (q % k) 0) rows
      ∙ row_at k t' (q / k) h'.tabled.long byte (q % k) (mod-lt q some)
      ∙ ap (λ (i : ℕ). get_or t' i 0) at

  behind : (q : ℕ) → suc highest * k ≤ q → get_or t q 0 ≡ get_or t' q 0
  behind q r =
      let at : suc highest * k + (q - suc highest * k) ≡ q = omega arith in
      ap (λ (i : ℕ). get_or t i 0) (sym at)
      ∙ sym (get_or-drop (suc highest * k) t (q - suc highest * k) 0)
      ∙ ap (λ (ws : List ℕ). get_or ws (q - suc highest * k) 0) (h.rest ∙ sym h'.rest)
      ∙ get_or-drop (suc highest * k) t' (q - suc highest * k) 0
      ∙ ap (λ (i : ℕ). get_or t' i 0) at

  pub no_second_additions : t ≡ t'
  no_second_additions = ext_get_or 0 t t' (h.same ∙ sym h'.same) (λ q r. ⊎_elim (behind q) (in_front q) (le_or_lt (suc highest * k) q))
