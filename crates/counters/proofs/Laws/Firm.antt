-- No second result satisfies the statement of `low_bits`, `lay_out` or `step_words`. Assumes nothing.
use mathlib.Core.Path.{◌≡◌, sym, ◌∙◌, to_path_p}
use mathlib.Core.List.{List}
use Prim.Native.Nat.{ℕ, suc, ◌+◌, ◌-◌, ◌*◌, ◌^◌, ◌≤◌}
use native.Mathlib.Omega.{arith}
use Rattle.std.proofs.Props.{props}
use lib.Arith.{digits_lt}
use lib.ListN.{length, get_or}
use lib.Seq.{ext_get_or}
use Rattle.counters.specs.Width.{low_bits}
use Rattle.counters.specs.Words.{LaidAcross, TurnedAcross}
use Rattle.counters.specs.Masking.{AreSound}
use Rattle.counters.specs.Sound.{LaidOut}
use Rattle.counters.specs.declared.Masks.{Masks}
use Rattle.counters.proofs.Laws.Fields.{same_words}
use Rattle.counters.proofs.Laws.Laying.{no_second_word}
use Rattle.counters.proofs.Laws.Across.{across_at}

pub no_second_low_bits : (g r r' : ℕ) → (r ≡ low_bits g) × (r ≤ 32) → (r' ≡ low_bits g) × (r' ≤ 32) → r ≡ r'
no_second_low_bits g r r' e e' = e.0 ∙ sym e'.0

-- masks of the same numbers are the same: that they are sound can be proved in one way only
sound_once : (b per g low top enter : ℕ) → IsProp (AreSound b per g low top enter)
sound_once b per g low top enter = hlevel props

same_masks : (r r' : Masks) → r.b ≡ r'.b → r.per ≡ r'.per → r.g ≡ r'.g → r.low ≡ r'.low → r.top ≡ r'.top → r.enter ≡ r'.enter → r ≡ r'
same_masks r r' b per g low top enter = λ i. record {
  b = b i;
  per = per i;
  g = g i;
  low = low i;
  top = top i;
  enter = enter i;
  sound = to_path_p (λ j. AreSound (b j) (per j) (g j) (low j) (top j) (enter j)) {a = r.sound} {b = r'.sound} (sound_once r'.b r'.per r'.g r'.low r'.top r'.enter _ r'.sound) i;
}

pub no_second_masks : (b m g : ℕ) (r r' : Masks) → LaidOut b m g r → LaidOut b m g r' → r ≡ r'
no_second_masks b m g r r' h h' =
    let low : r.low ≡ r'.low = no_second_word (suc b) m r.low r'.low (λ _. 2 ^ b - 1) (rw (h.b_is, h.per_is) at h.sound.lows) (rw (h'.b_is, h'.per_is) at h'.sound.lows) in
    let top : r.top ≡ r'.top = no_second_word (suc b) m r.top r'.top (λ _. 2 ^ b) (rw (h.b_is, h.per_is) at h.sound.tops) (rw (h'.b_is, h'.per_is) at h'.sound.tops) in
    let start : r.enter + (g + 1) ≡ 2 ^ b = rw (h.b_is, h.g_is) at h.sound.start in
    let start' : r'.enter + (g + 1) ≡ 2 ^ b = rw (h'.b_is, h'.g_is) at h'.sound.start in
    let enter : r.enter ≡ r'.enter = omega arith in
    same_masks r r' (h.b_is ∙ sym h'.b_is) (h.per_is ∙ sym h'.per_is) (h.g_is ∙ sym h'.g_is) low top enter

-- no second list of words holds the same
pub no_second_words : (l n : ℕ) (ws vs : List ℕ) (f : ℕ → ℕ) → length ws ≡ length vs → LaidAcross l n ws f → LaidAcross l n vs f → ws ≡ vs
no_second_words l n ws vs f e h h' =
    ext_get_or 0 ws vs e
    (λ j k. same_words l n (get_or ws j 0) (get_or vs j 0) (h.whole.bound j k) (h'.whole.bound j (rw (← e) k))
    (λ t r. sym (across_at l n ws j t r) ∙ h.each (j * n + t) (digits_lt k r) ∙ sym (h'.each (j * n + t) (digits_lt (rw (← e) k) r)) ∙ across_at l n vs j t r))

pub no_second_step : (b g n : ℕ) (ws : List ℕ) (c : ℕ) (cost : ℕ → ℕ) (rs rs' : List ℕ) → TurnedAcross b g n ws c cost rs → TurnedAcross b g n ws c cost rs' → rs ≡ rs'
no_second_step b g n ws c cost rs rs' h h' = no_second_words (suc b) n rs rs' _ (h.long ∙ sym h'.long) h.laid h'.laid
