-- How the counters begin, and what the last one tells. Assumes nothing.
use mathlib.Core.Path.{◌≡◌, refl, sym, ap, ◌∙◌}
use mathlib.Core.Logic.{◌↔◌, ⊎_elim}
use Prim.Native.Nat.{ℕ, zero, suc, ◌+◌, ◌-◌, ◌*◌, ◌/◌, ◌%◌, ◌^◌, ◌≤◌, ◌<◌}
use native.Mathlib.Nat.{mul-suc, add_comm, zero-mul, div-eq_of_lt, div-eq_of_lt-le}
use native.Mathlib.Omega.{arith}
use lib.Pow.{shr_mod, shr-shr, field, pow_pos}
use lib.Bits.{bit_and}
use Rattle.counters.specs.Word.{counter, Laid}
use Rattle.counters.specs.Sums.{Stands, Agrees, moved, stepped, entering, costs}
use Rattle.counters.proofs.Laws.Widths.{le_or_lt}
use Rattle.counters.proofs.Laws.Fields.{counter_lt}
use Rattle.counters.proofs.Laws.Growth.{top_bit}

-- what stands at the first point after a move, and at the others
pub moved_first : (p : ℕ) (s : ℕ → ℕ) → moved p s 0 ≡ p
unfolding moved
moved_first p s = refl

pub moved_next : (p : ℕ) (s : ℕ → ℕ) (i : ℕ) → moved p s (suc i) ≡ s i
unfolding moved
moved_next p s i = refl

pub stepped_is : (cost : ℕ → ℕ) (p : ℕ) (s : ℕ → ℕ) (i : ℕ) → stepped cost p s i ≡ moved p s i + cost i
unfolding stepped
stepped_is cost p s i = refl

-- a counter that enters by being added, and what additions cost that hold it
pub entering_first : (c : ℕ) → entering c 0 ≡ c
unfolding entering
entering_first c = refl

pub entering_next : (c i : ℕ) → 1 ≤ i → entering c i ≡ 0
unfolding entering
entering_next c zero h = absurd (omega arith)
entering_next c (suc i) h = refl

pub entering_le : (c i : ℕ) → entering c i ≤ c
unfolding entering
entering_le c zero = omega arith
entering_le c (suc i) = omega arith

pub costs_is : (c : ℕ) (adds : ℕ → ℕ) (i : ℕ) → costs c adds i ≡ adds i - entering c i
unfolding costs
costs_is c adds i = refl

module _ (b g m : ℕ) where
  -- "One that enters at point 1 starts at 2^b - (g + 1)": it stands for the sum 0
  pub enters : (c : ℕ) → c + (g + 1) ≡ 2 ^ b → Stands b g c 0
  enters c e = record { top = omega arith; low = λ _. omega arith }

  -- "Before the first reading all m counters are in the state above g, and so are the separate sums"
  pub all_above : (w : ℕ) (s : ℕ → ℕ) → Laid (suc b) m w (λ _. 2 ^ b) → ((i : ℕ) → i < m → g < s i) → Agrees b g m w s
  all_above w s laid above = record {
    bound = laid.bound;
    each = λ i h. rw (laid.each i h) (let l : g < s i = above i h in record { top = omega arith; low = λ k. absurd (omega arith) });
  }

-- a word without its last counter, and the last counter without the others
module _ (b n : ℕ) (some : 1 ≤ n) where
  whole : suc b * n ≡ suc b + suc b * (n - 1)
  whole = ap (λ (x : ℕ). suc b * x) (omega arith) ∙ mul-suc (suc b) (n - 1) ∙ add_comm (suc b * (n - 1)) (suc b)

  pub top_counter : (w : ℕ) → w < 2 ^ (suc b * n) → w / 2 ^ (suc b * (n - 1)) ≡ counter (suc b) w (n - 1)
  unfolding counter
  top_counter w h = sym (shr_mod {n = w} (suc b) (suc b * (n - 1)) (rw whole at h))

-- the top bit of counter i, taken out of its word
bit_is : (b w i : ℕ) → bit_and w (2 ^ (suc b * i + b)) ≡ (counter (suc b) w i / 2 ^ b) * 2 ^ (suc b * i + b)
unfolding counter
bit_is b w i = top_bit (suc b * i + b) w ∙ ap (λ (n : ℕ). n * 2 ^ (suc b * i + b)) here
  where
    here : w / 2 ^ (suc b * i + b) % 2 ≡ w / 2 ^ (suc b * i) % 2 ^ suc b / 2 ^ b
    here =
        sym (ap (λ (n : ℕ). n % 2) (shr-shr w (suc b * i) b))
        ∙ sym (field (w / 2 ^ (suc b * i)) 1 b)
        ∙ ap (λ (n : ℕ). w / 2 ^ (suc b * i) % 2 ^ n / 2 ^ b) (omega arith)

-- it is clear exactly where the sum that the counter stands for is at most g
pub clear_exactly : (b g w i s : ℕ) → Stands b g (counter (suc b) w i) s → (bit_and w (2 ^ (suc b * i + b)) ≡ 0) ↔ (s ≤ g)
clear_exactly b g w i s stands = (
  λ e. ⊎_elim (λ r. r) (λ r. absurd (set_there (stands.top.1 r) e)) (le_or_lt s g),
  λ h. ⊎_elim (λ r. absurd (omega (arith, stands.top.0 r))) clear_there (le_or_lt (2 ^ b) (counter (suc b) w i)),
)
  where
    clear_there : counter (suc b) w i < 2 ^ b → bit_and w (2 ^ (suc b * i + b)) ≡ 0
    clear_there h = bit_is b w i ∙ ap (λ (n : ℕ). n * 2 ^ (suc b * i + b)) (div-eq_of_lt h) ∙ zero-mul (2 ^ (suc b * i + b))

    set_there : 2 ^ b ≤ counter (suc b) w i → bit_and w (2 ^ (suc b * i + b)) ≡ 0 → ⊥
    set_there h e =
        let one : counter (suc b) w i / 2 ^ b ≡ 1 = div-eq_of_lt-le {k = 1} (2 ^ b) {m = counter (suc b) w i} (omega arith) (omega (arith, counter_lt (suc b) w i)) in
        omega (arith, pow_pos (suc b * i + b), bit_is b w i ∙ ap (λ (n : ℕ). n * 2 ^ (suc b * i + b)) one, e)
