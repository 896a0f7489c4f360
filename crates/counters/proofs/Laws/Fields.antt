-- Counters of l bits in a word, by their index: what `&`, `|`, `+`, a shift and a cut do to each counter. Assumes nothing.
use mathlib.Core.Path.{◌≡◌, sym, ap, ap₂, ◌∙◌}
use Prim.Native.Nat.{ℕ, zero, suc, ◌+◌, ◌-◌, ◌*◌, ◌/◌, ◌%◌, ◌^◌, ◌≤◌, ◌<◌}
use native.Mathlib.Nat.{lt_of_lt_of_le, mul-le-mul_left, zero-mod, mul-zero, mul-suc, add_comm, div-one, div-eq_of_lt, mod-lt, le_refl, div-lt_iff_lt-mul, one-mul}
use native.Mathlib.Omega.{arith}
use lib.Pow.{pow_pos, pow_mono, high, low, split, shr-shr, field, mod-mod-pow}
use lib.Bits.{bit_and, bit_or, and_shr, and_mod, or_shr, or_mod, or_shifted}
use Rattle.counters.specs.Word.{counter}

module _ (l : ℕ) where
  -- counter by counter: `&` and `|`
  pub counter_and : (a b i : ℕ) → counter l (bit_and a b) i ≡ bit_and (counter l a i) (counter l b i)
  unfolding counter
  counter_and a b i = ap (λ (n : ℕ). n % 2 ^ l) (and_shr a b (l * i)) ∙ and_mod (a / 2 ^ (l * i)) (b / 2 ^ (l * i)) l

  pub counter_or : (a b i : ℕ) → counter l (bit_or a b) i ≡ bit_or (counter l a i) (counter l b i)
  unfolding counter
  counter_or a b i = ap (λ (n : ℕ). n % 2 ^ l) (or_shr a b (l * i)) ∙ or_mod (a / 2 ^ (l * i)) (b / 2 ^ (l * i)) l

  pub counter_lt : (a i : ℕ) → counter l a i < 2 ^ l
  unfolding counter
  counter_lt a i = mod-lt (a / 2 ^ (l * i)) (pow_pos l)

  -- above what a word holds there is 0
  pub counter_above : (w m i : ℕ) → w < 2 ^ (l * m) → m ≤ i → counter l w i ≡ 0
  unfolding counter
  counter_above w m i h k =
      ap (λ (n : ℕ). n % 2 ^ l) (div-eq_of_lt (lt_of_lt_of_le h (pow_mono (mul-le-mul_left l k)))) ∙ zero-mod (2 ^ l)

  -- what lies above counter i
  pub above_next : (a i : ℕ) → a / 2 ^ (l * suc i) ≡ a / 2 ^ (l * i) / 2 ^ l
  above_next a i = ap (λ (n : ℕ). a / 2 ^ n) (mul-suc l i) ∙ sym (shr-shr a (l * i) l)

  -- a new lowest counter moves the others one up
  pub first : (w : ℕ) {c : ℕ} → c < 2 ^ l → counter l (w * 2 ^ l + c) 0 ≡ c
  unfolding counter
  first w {c} h = ap (λ (n : ℕ). (w * 2 ^ l + c) / 2 ^ n % 2 ^ l) (mul-zero l) ∙ ap (λ (n : ℕ). n % 2 ^ l) (div-one (w * 2 ^ l + c)) ∙ low w l h

  pub later : (w i : ℕ) {c : ℕ} → c < 2 ^ l → counter l (w * 2 ^ l + c) (suc i) ≡ counter l w i
  unfolding counter
  later w i {c} h =
      ap (λ (n : ℕ). (w * 2 ^ l + c) / 2 ^ n % 2 ^ l) (mul-suc l i ∙ add_comm (l * i) l)
      ∙ ap (λ (n : ℕ). n % 2 ^ l) (sym (shr-shr (w * 2 ^ l + c) l (l * i)))
      ∙ ap (λ (n : ℕ). n / 2 ^ (l * i) % 2 ^ l) (high w l h)

  -- a cut above the counter leaves it
  pub cut : (w k i : ℕ) → l * suc i ≤ k → counter l (w % 2 ^ k) i ≡ counter l w i
  unfolding counter
  cut w k i h =
      let room : l + l * i ≤ k = rw (← (add_comm (l * i) l), ← (mul-suc l i)) h in
      let e : k ≡ (k - (l + l * i) + l) + l * i = omega arith in
      ap (λ (n : ℕ). w % 2 ^ n / 2 ^ (l * i) % 2 ^ l) e
      ∙ ap (λ (n : ℕ). n % 2 ^ l) (field w (k - (l + l * i) + l) (l * i))
      ∙ mod-mod-pow (w / 2 ^ (l * i)) (k - (l + l * i)) l

  -- two numbers whose low digits add without a carry
  sum_parts : (a b : ℕ) → a + b ≡ (a / 2 ^ l + b / 2 ^ l) * 2 ^ l + (a % 2 ^ l + b % 2 ^ l)
  sum_parts a b = omega (arith, split a l, split b l)

  sum_high : (a b : ℕ) → a % 2 ^ l + b % 2 ^ l < 2 ^ l → (a + b) / 2 ^ l ≡ a / 2 ^ l + b / 2 ^ l
  sum_high a b h = ap (λ (n : ℕ). n / 2 ^ l) (sum_parts a b) ∙ high (a / 2 ^ l + b / 2 ^ l) l h

  sum_low : (a b : ℕ) → a % 2 ^ l + b % 2 ^ l < 2 ^ l → (a + b) % 2 ^ l ≡ a % 2 ^ l + b % 2 ^ l
  sum_low a b h = ap (λ (n : ℕ). n % 2 ^ l) (sum_parts a b) ∙ low (a / 2 ^ l + b / 2 ^ l) l h

  -- no carry out of the counters below i: the sum's part from i on is the sum of the parts
  add_above : (a b i : ℕ) → ((j : ℕ) → j < i → counter l a j + counter l b j < 2 ^ l) → (a + b) / 2 ^ (l * i) ≡ a / 2 ^ (l * i) + b / 2 ^ (l * i)
  unfolding counter
  add_above a b zero h = simp (mul-zero, div-one)
  add_above a b (suc i) h =
      above_next (a + b) i
      ∙ ap (λ (n : ℕ). n / 2 ^ l) (add_above a b i (λ j k. h j (omega arith)))
      ∙ sum_high (a / 2 ^ (l * i)) (b / 2 ^ (l * i)) (h i (le_refl (suc i)))
      ∙ sym (ap₂ (λ (x y : ℕ). x + y) (above_next a i) (above_next b i))

  -- where no counter up to i carries, the sum's counter i is the sum of the counters
  pub counter_add : (a b i : ℕ) → ((j : ℕ) → j < suc i → counter l a j + counter l b j < 2 ^ l) → counter l (a + b) i ≡ counter l a i + counter l b i
  unfolding counter
  counter_add a b i h =
      ap (λ (n : ℕ). n % 2 ^ l) (add_above a b i (λ j k. h j (omega arith)))
      ∙ sum_low (a / 2 ^ (l * i)) (b / 2 ^ (l * i)) (h i (le_refl (suc i)))

  -- where none of the m counters carries, the sum has no more than the m counters
  pub add_lt : (a b m : ℕ) → a < 2 ^ (l * m) → b < 2 ^ (l * m) → ((j : ℕ) → j < m → counter l a j + counter l b j < 2 ^ l) → a + b < 2 ^ (l * m)
  add_lt a b m ha hb h =
      let e : (a + b) / 2 ^ (l * m) ≡ 0 = add_above a b m h ∙ ap₂ (λ (x y : ℕ). x + y) (div-eq_of_lt ha) (div-eq_of_lt hb) in
      rw one-mul at ((div-lt_iff_lt-mul {k = 2 ^ (l * m)} {x = a + b} {y = 1} (pow_pos (l * m))).0 (omega arith))

  -- the machine's shift, in a word of k bits, with a new lowest counter put in
  pub entered : (w k i : ℕ) {c : ℕ} → l * suc i ≤ k → c < 2 ^ l → counter l (bit_or (w * 2 ^ l % 2 ^ k) c) i ≡ counter l (w * 2 ^ l + c) i
  entered w k i {c} h hc =
      counter_or (w * 2 ^ l % 2 ^ k) c i
      ∙ ap (λ (n : ℕ). bit_or n (counter l c i)) (cut (w * 2 ^ l) k i h)
      ∙ sym (counter_or (w * 2 ^ l) c i)
      ∙ ap (λ (n : ℕ). counter l n i) (or_shifted w l c hc)

  -- two words with the same m counters, and nothing above them, are the same
  pub same_words : (m w v : ℕ) → w < 2 ^ (l * m) → v < 2 ^ (l * m) → ((i : ℕ) → i < m → counter l w i ≡ counter l v i) → w ≡ v
  unfolding counter
  same_words m w v hw hv e = from_top m (div-eq_of_lt hw ∙ sym (div-eq_of_lt hv)) e
    where
      from_top : (i : ℕ) → w / 2 ^ (l * i) ≡ v / 2 ^ (l * i) → ((j : ℕ) → j < i → counter l w j ≡ counter l v j) → w ≡ v
      from_top zero t e = simp (mul-zero, div-one) at t
      from_top (suc i) t e =
          from_top i
          (sym (split (w / 2 ^ (l * i)) l)
          ∙ ap₂ (λ (x y : ℕ). x * 2 ^ l + y) (sym (above_next w i) ∙ t ∙ above_next v i) (e i (le_refl (suc i)))
          ∙ split (v / 2 ^ (l * i)) l)
          (λ j h. e j (omega arith))
