-- The table of additions as it is built: a word from its last point down, the list from its first reading up. Assumes nothing.
use mathlib.Core.Path.{◌≡◌, sym, ap, ◌∙◌}
use mathlib.Core.Logic.{⊎_elim}
use mathlib.Core.List.{List, [], ◌∷◌, ◌++◌}
use Prim.Native.Nat.{ℕ, zero, suc, min, ◌+◌, ◌-◌, ◌*◌, ◌%◌, ◌^◌, ◌≤◌, ◌<◌}
use native.Mathlib.Nat.{le_trans, lt_of_lt_of_le, mul-le-mul, mul-le-mul_left, mul-le-mul_right, add-sub_cancel_left, zero-add, zero-mul}
use native.Mathlib.Omega.{arith}
use lib.Bits.{bit_or}
use lib.ListN.{length, get_or, take, drop, length-append, length-take, length-drop}
use lib.Seq.{get_or-take, get_or-drop, get_or-append_seam, take-append_seam}
use Rattle.std.proofs.lemmas.List.{length_push, take-take}
use Rattle.std.proofs.lemmas.Slice.{between_is, between-put_mid, take-put_mid_below, drop-put_mid}
use borrow.Rule.Slice.PartMut.{put_mid}
use borrow.Author.Count.{below_more}
use borrow.Author.Tests.{lt-ltb, le-ltb}
use Rattle.fit.specs.Reading.{highest}
use Rattle.counters.specs.Word.{word_bits, Laid}
use Rattle.counters.specs.Sums.{moved, entering}
use Rattle.counters.proofs.Laws.Widths.{le_or_lt}
use Rattle.counters.proofs.Laws.Laying.{laid_same, laid_more, laid_wider, laid_entering}
use Rattle.counters.proofs.Laws.Ends.{moved_first, moved_next, entering_next, costs_is}
use Rattle.counters.specs.Words.{across, LaidAcross}
use Rattle.adding.specs.Costs.{with_entering}
use Rattle.adding.specs.Tables.{row_of, cost_in, padded, Tabled, TabledIn}

-- ---- a word: the points from i on are laid
pub record Filled (l m : ℕ) (f : ℕ → ℕ) (w i : ℕ) : Type 0 where
  pub within : i ≤ m
  pub laid : Laid l (m - i) w (λ t. f (i + t))

module _ (l m : ℕ) (f : ℕ → ℕ) where
  -- and the point before them, with v
  pub filled_more : (w i v : ℕ) → Filled l m f w (i + 1) → l * m ≤ word_bits → v < 2 ^ l → v ≡ f i
      → Filled l m f (bit_or (w * 2 ^ l % 2 ^ word_bits) v) i
  filled_more w i v h fit small e =
      let n : m - i ≡ suc (m - (i + 1)) = omega (arith, h.within) in
      record {
        within = omega (arith, h.within);
        laid = rw n
            (laid_same l (laid_more l (m - (i + 1)) w v (λ t. f (i + 1 + t)) (le_trans (mul-le-mul_left l (omega (arith, h.within))) fit) small h.laid) same);
      }
    where
      same : (t : ℕ) → t < suc (m - (i + 1)) → moved v (λ t. f (i + 1 + t)) t ≡ f (i + t)
      same zero k = moved_first v (λ t. f (i + 1 + t)) ∙ e ∙ ap f (omega arith)
      same (suc t) k = moved_next v (λ t. f (i + 1 + t)) t ∙ ap f (omega arith)

-- ---- the points are taken from the last down: those that are left stand in front
module _ (x rest : List ℕ) (v : ℕ) (front : rest ++ v ∷ [] ≡ take (length (rest ++ v ∷ [])) x) where
  -- the next one is the last of them
  pub last_left : v ≡ get_or x (length rest) 0
  last_left =
      sym (get_or-append_seam rest v [] 0)
      ∙ ap (λ (xs : List ℕ). get_or xs (length rest) 0) front
      ∙ get_or-take (length (rest ++ v ∷ [])) x (length rest) 0 (omega (arith, length_push rest v))

  pub others_left : rest ≡ take (length rest) x
  others_left =
      sym (take-append_seam rest (v ∷ []))
      ∙ ap (take (length rest)) front
      ∙ take-take (length rest) (length (rest ++ v ∷ [])) x (omega (arith, length_push rest v))

-- ---- costs at the points, and 0 behind them
module _ (m : ℕ) (f : ℕ → ℕ) (i : ℕ) where
  pub padded_below : i < m → padded m f i ≡ f i
  unfolding padded
  padded_below h = rw (lt-ltb i m h)

  padded_above : m ≤ i → padded m f i ≡ 0
  unfolding padded
  padded_above h = rw (le-ltb i m h)

  pub padded_small : (most : ℕ) → f i ≤ most → padded m f i ≤ most
  padded_small most h = ⊎_elim (λ (l : m ≤ i). omega (arith, padded_above l)) (λ (l : i < m). omega (arith, padded_below l)) (le_or_lt m i)

-- ---- and with the counter c that enters at point 1
module _ (m : ℕ) (f : ℕ → ℕ) (c : ℕ) (points : 1 ≤ m) where
  padded_entering : (i : ℕ) → entering c i + padded m f i ≡ padded m (λ p. entering c p + f p) i
  padded_entering i =
      ⊎_elim
      (λ (l : m ≤ i). omega (arith, padded_above m f i l, padded_above m (λ p. entering c p + f p) i l, entering_next c i (omega arith)))
      (λ (l : i < m). omega (arith, padded_below m f i l, padded_below m (λ p. entering c p + f p) i l))
      (le_or_lt m i)

  module _ (l n w j : ℕ) (some : 1 ≤ n) (laid : Laid l n w (λ t. padded m f (j * n + t))) where
    -- it is added to the first word
    pub first_entered : j ≡ 0 → c + f 0 < 2 ^ l → Laid l n (w + c) (λ t. padded m (λ p. entering c p + f p) (j * n + t))
    first_entered e fits =
        let here : (t : ℕ) → j * n + t ≡ t = λ t. rw (e, zero-mul, zero-add) in
        laid_same l (laid_entering l n w c (λ t. padded m f (j * n + t)) some (rw (here 0, padded_below m f 0 points) fits) laid)
        (λ t _. rw (here t) (padded_entering t))

    -- and to no other
    pub next_entered : 1 ≤ j → Laid l n w (λ t. padded m (λ p. entering c p + f p) (j * n + t))
    next_entered later = laid_same l laid (λ t _. same t)
      where
        same : (t : ℕ) → padded m f (j * n + t) ≡ padded m (λ p. entering c p + f p) (j * n + t)
        same t = omega (arith, padded_entering (j * n + t), entering_next c (j * n + t) (omega (arith, mul-le-mul later some)))

-- ---- the word of n counters that begins at point o: a part of the profile is laid, and what is left of the word is 0
module _ (x : List ℕ) (o n from to : ℕ) (from_is : from ≡ min o (length x)) (to_is : to ≡ min (o + n) (length x)) where
  abbrev part : List ℕ
  part = take (to - from) (drop from x)

  pub part_length : length part ≡ to - from
  part_length = simp (length-take, length-drop) (omega arith)

  pub part_laid : (l w : ℕ) (f : ℕ → ℕ) → Laid l (length part) w (λ i. f (get_or part i 0)) → Laid l n w (λ t. padded (length x) (λ i. f (get_or x i 0)) (o + t))
  part_laid l w f laid =
      laid_wider l (to - from) n w (λ t. padded (length x) (λ i. f (get_or x i 0)) (o + t)) (omega arith)
      (λ t r k. padded_above (length x) (λ i. f (get_or x i 0)) (o + t) (omega arith))
      (laid_same l (rw part_length at laid) same)
    where
      same : (t : ℕ) → t < to - from → f (get_or part t 0) ≡ padded (length x) (λ i. f (get_or x i 0)) (o + t)
      same t k =
          let e : from ≡ o = omega arith in
          ap f (get_or-take (to - from) (drop from x) t 0 k ∙ get_or-drop from x t 0 ∙ ap (λ (i : ℕ). get_or x (i + t) 0) e)
          ∙ sym (padded_below (length x) (λ i. f (get_or x i 0)) (o + t) (omega arith))

-- ---- the words of a reading in the table
module _ (k : ℕ) (t : List ℕ) (a : ℕ) (long : suc highest * k ≤ length t) (byte : a < suc highest) where
  pub row_ends : a * k + k ≤ length t
  row_ends = let row : suc a * k ≤ suc highest * k = mul-le-mul_right k byte in omega (arith, row)

  pub row_length : length (row_of k t a) ≡ k
  row_length = simp (length-take, length-drop) (omega (arith, row_ends))

  pub row_at : (j : ℕ) → j < k → get_or (row_of k t a) j 0 ≡ get_or t (a * k + j) 0
  row_at j h = get_or-take k (drop (a * k) t) j 0 h ∙ get_or-drop (a * k) t j 0

-- the part of the table that the code takes for them
pub row_part : (k : ℕ) (t : List ℕ) (a r : ℕ) → r ≡ a → take (r * k + k - r * k) (drop (r * k) t) ≡ row_of k t a
row_part k t a r e = rw (e, add-sub_cancel_left)

-- ---- a row is written
module _ (k a : ℕ) (t row : List ℕ) (within : a * k + k ≤ length t) (long : length row ≡ k) where
  abbrev written : List ℕ
  written = put_mid (a * k) k t row

  width : a * k + k - a * k ≡ k
  width = add-sub_cancel_left (a * k) k

  -- it is the row of its reading
  row_written : row_of k written a ≡ row
  row_written = rw width at (between-put_mid (a * k) k t row (a * k + k) (omega arith) (long ∙ sym width))

  -- the rows before it are as they were
  row_cut : (b : ℕ) (ws : List ℕ) → row_of k ws b ≡ drop (b * k) (take (b * k + k) ws)
  row_cut b ws = rw (add-sub_cancel_left (b * k) k) at (between_is ws (b * k) (b * k + k))

  row_kept : (b : ℕ) → b < a → row_of k written b ≡ row_of k t b
  row_kept b h =
      let before : suc b * k ≤ a * k = mul-le-mul_right k h in
      row_cut b written
      ∙ ap (drop (b * k)) (take-put_mid_below (a * k) k t row (b * k + k) (omega (arith, before)) (omega arith))
      ∙ sym (row_cut b t)

  -- and so is what stands behind it
  rest_kept : (q : ℕ) → a * k + k ≤ q → drop q written ≡ drop q t
  rest_kept q h = drop-put_mid (a * k) k t row q h (omega arith) long

-- ---- the table as it is built: the rows of the readings below a are laid
pub record Listed (l n k m : ℕ) (cost : ℕ → ℕ → ℕ) (entry t : List ℕ) (a : ℕ) : Type 0 where
  pub long : suc highest * k ≤ length entry
  pub same : length t ≡ length entry
  pub rest : drop (suc highest * k) t ≡ drop (suc highest * k) entry
  pub each : (b : ℕ) → b < a → LaidAcross l n (row_of k t b) (padded m (λ i. cost i b))

module _ (l n k m : ℕ) (cost : ℕ → ℕ → ℕ) (entry : List ℕ) where
  pub listed_more : (t row : List ℕ) (a : ℕ) → Listed l n k m cost entry t a → a < suc highest → length row ≡ length (row_of k t a) → LaidAcross l n row (padded m (λ i. cost i a)) → Listed l n k m cost entry (put_mid (a * k) k t row) (a + 1)
  listed_more t row a h byte as_long laid =
      let ends : suc a * k ≤ suc highest * k = mul-le-mul_right k byte in
      let within : a * k + k ≤ length t = omega (arith, ends, h.long, h.same) in
      let long : length row ≡ k = as_long ∙ row_length k t a (rw h.same h.long) byte in
      let kept : length (put_mid (a * k) k t row) ≡ length t = simp (length-append, length-take, length-drop) (omega arith) in
      record {
        long = h.long;
        same = kept ∙ h.same;
        rest = rest_kept k a t row within long (suc highest * k) (omega (arith, ends)) ∙ h.rest;
        each =
            below_more (λ (b : ℕ). LaidAcross l n (row_of k (put_mid (a * k) k t row) b) (padded m (λ i. cost i b))) a
            (λ b r. rw (row_kept k a t row within long b r) (h.each b r))
            (rw (row_written k a t row within long) laid);
      }

  pub listed_end : (t : List ℕ) (a : ℕ) → Listed l n k m cost entry t a → suc highest ≤ a → TabledIn l n k m cost entry t
  listed_end t a h all = record {
    tabled = record { long = rw h.same h.long; each = λ b byte. h.each b (omega arith) };
    same = h.same;
    rest = h.rest;
  }

-- what the words of a reading cost at the points, where the entering counter c is in them too
pub costs_tabled : (l n c k m : ℕ) (cost : ℕ → ℕ → ℕ) (t : List ℕ) → Tabled l n k m (with_entering c cost) t → m ≤ k * n → (i a : ℕ) → i < m → a < suc highest
    → cost_in l n c k t i a ≡ cost i a
costs_tabled l n c k m cost t h room i a below byte =
    costs_is c (across l n (row_of k t a)) i
    ∙ omega
    (arith, (h.each a byte).each i (rw (row_length k t a h.long byte) (lt_of_lt_of_le below room)), padded_below m (λ p. with_entering c cost p a) i below)
