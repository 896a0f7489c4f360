-- One reading as it goes from word to word: what leaves a word enters the next. Assumes nothing.
use mathlib.Core.Path.{◌≡◌, refl, sym, ap, ◌∙◌}
use mathlib.Core.List.{List}
use Prim.Native.Nat.{ℕ, suc, ◌+◌, ◌-◌, ◌*◌, ◌/◌, ◌^◌, ◌≤◌, ◌<◌}
use native.Mathlib.Nat.{le_refl, zero-mul}
use native.Mathlib.Numerals.{add-one}
use native.Mathlib.Omega.{arith}
use borrow.Author.Count.{below_more}
use lib.Pow.{pow_pos}
use lib.ListN.{length, get_or, set, length-set}
use lib.Seq.{get_or-set_same, get_or-set_other}
use Rattle.counters.specs.Word.{counter}
use Rattle.counters.specs.Sums.{moved, Turned, costs}
use Rattle.counters.specs.Sound.{Sound}
use Rattle.counters.specs.Words.{across, Whole, SmallAcross, TurnedAcross}
use Rattle.counters.specs.declared.Masks.{Masks}
use Rattle.counters.proofs.Laws.Fields.{counter_lt}
use Rattle.counters.proofs.Laws.Ends.{moved_first, moved_next, top_counter}
use Rattle.counters.proofs.Laws.Across.{across_at, all_turned, turned_folded}

-- word j is next: the words before it have been turned, and it and those behind it not; `enters` is what comes into it, 0 into the first
pub record Handed (k : Masks) (ws₀ adds ws : List ℕ) (enters j : ℕ) : Type 0 where
  pub within : j ≤ length ws₀
  pub long : length ws ≡ length ws₀
  pub narrow : enters < 2 ^ suc k.b
  pub coming : enters ≡ moved 0 (across (suc k.b) k.per ws₀) (j * k.per)
  pub rest : (i : ℕ) → j ≤ i → get_or ws i 0 ≡ get_or ws₀ i 0
  pub done : (i : ℕ) → i < j
      → Turned k.b k.g k.per (get_or ws₀ i 0) (moved 0 (across (suc k.b) k.per ws₀) (i * k.per)) (counter (suc k.b) (get_or adds i 0)) (get_or ws i 0)

module _ (k : Masks) (ok : Sound k) (ws₀ adds : List ℕ) where
  abbrev coming_at : ℕ → ℕ
  coming_at j = moved 0 (across (suc k.b) k.per ws₀) (j * k.per)

  pub handed_start : Handed k ws₀ adds ws₀ 0 0
  handed_start = record {
    within = omega arith;
    long = refl;
    narrow = pow_pos (suc k.b);
    coming = sym (ap (moved 0 (across (suc k.b) k.per ws₀)) (zero-mul k.per) ∙ moved_first 0 (across (suc k.b) k.per ws₀));
    rest = λ i _. refl;
    done = λ i h. absurd (omega arith);
  }

  -- what leaves word j is its top counter, and it enters the next word
  leaving : (j : ℕ) → get_or ws₀ j 0 < 2 ^ (suc k.b * k.per) → get_or ws₀ j 0 / 2 ^ ((k.b + 1) * (k.per - 1)) ≡ coming_at (j + 1)
  leaving j h =
      let next : (j + 1) * k.per ≡ suc (j * k.per + (k.per - 1)) = omega (arith, ok.some) in
      rw (add-one k.b) (top_counter k.b k.per ok.some (get_or ws₀ j 0) h)
      ∙ sym (across_at (suc k.b) k.per ws₀ j (k.per - 1) (omega (arith, ok.some)))
      ∙ sym (moved_next 0 (across (suc k.b) k.per ws₀) (j * k.per + (k.per - 1)))
      ∙ sym (ap (moved 0 (across (suc k.b) k.per ws₀)) next)

  pub handed_more : (ws : List ℕ) (enters j r : ℕ) → Handed k ws₀ adds ws enters j → j < length ws₀ → Whole (suc k.b) k.per ws₀
      → Turned k.b k.g k.per (get_or ws j 0) enters (counter (suc k.b) (get_or adds j 0)) r
      → Handed k ws₀ adds (set ws j r) (get_or ws j 0 / 2 ^ ((k.b + 1) * (k.per - 1))) (j + 1)
  handed_more ws enters j r h inside whole turn =
      let same : get_or ws j 0 ≡ get_or ws₀ j 0 = h.rest j (le_refl j) in
      let leaves : get_or ws j 0 / 2 ^ ((k.b + 1) * (k.per - 1)) ≡ coming_at (j + 1) = rw same (leaving j (whole.bound j inside)) in
      record {
        within = omega arith;
        long = length-set ws j r ∙ h.long;
        narrow = rw (add-one k.b, same, top_counter k.b k.per ok.some (get_or ws₀ j 0) (whole.bound j inside)) (counter_lt (suc k.b) (get_or ws₀ j 0) (k.per - 1));
        coming = leaves;
        rest = λ i l. get_or-set_other ws j i r 0 (λ e. absurd (omega arith)) ∙ h.rest i (omega arith);
        done =
            below_more (λ (i : ℕ). Turned k.b k.g k.per (get_or ws₀ i 0) (coming_at i) (counter (suc k.b) (get_or adds i 0)) (get_or (set ws j r) i 0)) j
            (λ i l. rw (get_or-set_other ws j i r 0 (λ e. absurd (omega arith))) (h.done i l))
            (rw (get_or-set_same ws j r 0 (omega (arith, h.long)), ← same, ← h.coming) turn);
      }

  pub handed_end : (ws : List ℕ) (enters j : ℕ) → SmallAcross k.b k.enter k.per (length ws₀) adds → Handed k ws₀ adds ws enters j → length ws₀ ≤ j
      → TurnedAcross k.b k.g k.per ws₀ k.enter (costs k.enter (across (suc k.b) k.per adds)) ws
  handed_end ws enters j small h e =
      turned_folded k.b k.g k.per ok.some ws₀ k.enter (across (suc k.b) k.per adds) ws (omega (arith, ok.start)) small.first
      (all_turned k.b k.g k.per ok.some ws₀ 0 adds ws h.long (pow_pos (suc k.b)) (λ i l. h.done i (omega arith)))
