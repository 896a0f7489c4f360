-- The frame of demand 3, said once for every rule and every kind of points. Assumes nothing.
use Prim.Native.Nat.{ℕ, zero, suc, ◌+◌, ◌≤◌, ◌<◌, max, zero-le}
use mathlib.Core.Path.{◌≡◌, refl, sym, ap, subst, ◌∙◌}
use mathlib.Core.Bool.{true}
use mathlib.Core.Logic.{⊎_elim}
use mathlib.Core.List.{List, [], ◌∷◌}
use native.Mathlib.Nat.{le_of_suc-le-suc, not-suc-le-zero}
use native.Mathlib.Numerals.{add-one}
use native.Mathlib.Decide.{dec_lt, ℕ_discrete}
use native.Mathlib.Omega.{arith}
use lib.ListN.{length, get_or}
use Rattle.fit.specs.Reading.{highest}
use Rattle.fit.specs.Rule.{Rule, reading_at, sum_cost, is_place_by, near_by}
use Rattle.fit.specs.Refusal.{max_readings}
use Rattle.fit.proofs.Laws.Bools.{le_or_lt}
use Rattle.fit.proofs.Laws.Rules.{fit_all, sum_none, sum_more, sum_bound, by_is, by_near}
use Rattle.jumps.specs.Demand.{Readings, landing, Passed, Seen, NotTooLong, Reaches, Halves, Occurs}

-- ---- a recording from a function
unfoldable pub tab : (ℕ → ℕ) → ℕ → List ℕ
tab c zero = []
tab c (suc n) = c 0 ∷ tab (λ q. c (suc q)) n

pub length_tab : (c : ℕ → ℕ) (n : ℕ) → length (tab c n) ≡ n
unfolding tab
length_tab c zero = refl
length_tab c (suc n) = ap suc (length_tab (λ q. c (suc q)) n)

pub tab_at : (c : ℕ → ℕ) (n i : ℕ) → i < n → get_or (tab c n) i 0 ≡ c i
unfolding tab
tab_at c zero i l = absurd (not-suc-le-zero l)
tab_at c (suc n) zero l = refl
tab_at c (suc n) (suc i) l = tab_at (λ q. c (suc q)) n i (le_of_suc-le-suc l)

tab_readings : (c : ℕ → ℕ) (n : ℕ) → ((q : ℕ) → c q ≤ highest) → Readings (tab c n)
unfolding tab
tab_readings c zero h i = zero-le
tab_readings c (suc n) h zero = h 0
tab_readings c (suc n) h (suc i) = tab_readings (λ q. c (suc q)) n (λ q. h (suc q)) i

-- ---- a sum whose terms are 0 but for one
pub sum_single : (cost : ℕ → ℕ → ℕ) (y : List ℕ) (s j b m : ℕ)
    → ((i : ℕ) → i < m → (i ≡ j → ⊥) → cost i (reading_at y s i) ≡ 0) → ((i : ℕ) → i < m → i ≡ j → cost i (reading_at y s i) ≤ b)
    → sum_cost cost y s m ≤ b
sum_single cost y s j b zero free dear = omega (arith, sum_none cost y s)
sum_single cost y s j b (suc m) free dear =
    subst (λ (k : ℕ). sum_cost cost y s k ≤ b) (add-one m)
    (go (ℕ_discrete m j) (sum_single cost y s j b m (λ i l. free i (omega arith)) (λ i l. dear i (omega arith))))
  where
    go : Dec (m ≡ j) → sum_cost cost y s m ≤ b → sum_cost cost y s (m + 1) ≤ b
    go (yes e) h =
        omega (arith, sum_more cost y s m, dear m (omega arith) e, sum_bound cost y s m 0 (λ i l. omega (arith, free i (omega arith) (λ q. omega arith))))
    go (no n) h = omega (arith, sum_more cost y s m, free m (omega arith) n)

-- ---- evidence and a place, under any rule
-- a reading that stands at each point for nothing
pub record Home (r : Rule) (m : ℕ) : Type 0 where
  pub home : ℕ → ℕ
  pub byte : (i : ℕ) → home i ≤ highest
  pub fits : (i : ℕ) → i < m → r.fit i (home i) ≡ true
  pub free : (i : ℕ) → i < m → r.cost i (home i) ≡ 0

-- a reading that the evidence allows
pub record Some (A : ℕ → Type 0) : Type 0 where
  pub c : ℕ
  pub byte : c ≤ highest
  pub seen : A c

-- a reading that the evidence allows and that may stand at point i
pub record Meet (r : Rule) (gamma i : ℕ) (A : ℕ → Type 0) : Type 0 where
  pub c : ℕ
  pub byte : c ≤ highest
  pub seen : A c
  pub near : near_by r gamma i c ≡ true

module _ (r : Rule) (m gamma : ℕ) where
  abbrev pub PlaceBy : List ℕ → ℕ → Type 0
  PlaceBy y s = is_place_by r m gamma y s ≡ true

  module _ (P : ℕ → ℕ → Type 0) (w : ℕ) where
    -- clash: the reading that is at position q of the evidence and at point i of the place is as both say
    pub clash : (y : List ℕ) (s t q i : ℕ) → Seen P w y s → is_place_by r m gamma y t ≡ true → s + q ≡ t + i → q < w → i < m
        → P q (reading_at y s q) × (near_by r gamma i (reading_at y s q) ≡ true)
    clash y s t q i e p at l h = (e.each q l, subst (λ (j : ℕ). near_by r gamma i (get_or y j 0) ≡ true) (sym at) (by_near r m gamma y t p i h))

    -- built: readings c that are as the evidence says, and suit at k with a sum of at most gamma, make a recording of w + (k + m) readings
    pub built : (c : ℕ → ℕ) (k : ℕ) → w + (k + m) ≤ max_readings → ((q : ℕ) → c q ≤ highest) → ((q : ℕ) → q < w → P q (c q))
        → ((i : ℕ) → i < m → r.fit i (c (k + i)) ≡ true)
        → ((y : List ℕ) (t : ℕ) → ((i : ℕ) → i < m → reading_at y t i ≡ c (k + i)) → sum_cost r.cost y t m ≤ gamma)
        → Reaches PlaceBy (Seen P w) k
    built c k few byte seen fits total = record {
      y = y;
      s = 0;
      readings = tab_readings c n byte;
      short = omega (arith, length_tab c n);
      evidence = record {
        inside = omega (arith, length_tab c n);
        each = λ q l. subst (P q) (sym (at (0 + q) q (omega arith) (omega arith))) (seen q l);
      };
      place =
          by_is r m gamma y (landing 0 k) (omega (arith, length_tab c n))
          (fit_all r.fit y (landing 0 k) m (λ i l. ap (r.fit i) (on i l) ∙ fits i l)) (total y (landing 0 k) on);
    }
      where
        n : ℕ
        n = w + (k + m)

        y : List ℕ
        y = tab c n

        at : (i j : ℕ) → i ≡ j → i < n → get_or y i 0 ≡ c j
        at i j e l = tab_at c n i l ∙ ap c e

        on : (i : ℕ) → i < m → reading_at y (landing 0 k) i ≡ c (k + i)
        on i l = at (landing 0 k + i) (k + i) (omega arith) (omega arith)

-- evidence that allows a reading at each position can occur
pub occurs : (P : ℕ → ℕ → Type 0) (w : ℕ) → w ≤ max_readings → ((q : ℕ) → q < w → Some (P q)) → Occurs (Seen P w)
occurs P w few any = record {
  y = tab c w;
  s = 0;
  readings = tab_readings c w (λ q. byte q (dec_lt q w));
  short = omega (arith, length_tab c w);
  evidence = record {
    inside = omega (arith, length_tab c w);
    each = λ q l. let e : 0 + q ≡ q = omega arith in subst (P q) (sym (ap (λ (i : ℕ). get_or (tab c w) i 0) e ∙ tab_at c w q l)) (seen q l (dec_lt q w));
  };
}
  where
    pick : (q : ℕ) → Dec (q < w) → ℕ
    pick q (yes l) = (any q l).c
    pick q (no n) = 0

    c : ℕ → ℕ
    c q = pick q (dec_lt q w)

    byte : (q : ℕ) (b : Dec (q < w)) → pick q b ≤ highest
    byte q (yes l) = (any q l).byte
    byte q (no n) = zero-le

    seen : (q : ℕ) → q < w → (b : Dec (q < w)) → P q (pick q b)
    seen q l (yes l') = (any q l').seen
    seen q l (no n) = absurd (n l)

-- ---- the two halves, of any kind of place and evidence
-- both hold of places said otherwise
pub long_as : (A B E : List ℕ → ℕ → Type 0) (from k : ℕ) → ((y : List ℕ) (t : ℕ) → B y t → A y t) → NotTooLong A E from k → NotTooLong B E from k
long_as A B E from k f h y s t rd e p b = h y s t rd e p (f y t b)

pub reaches_as : (A B E : List ℕ → ℕ → Type 0) (k : ℕ) → ((y : List ℕ) (t : ℕ) → A y t → B y t) → Reaches A E k → Reaches B E k
reaches_as A B E k f h =
    record { y = h.y; s = h.s; readings = h.readings; short = h.short; evidence = h.evidence; place = f h.y (landing h.s k) h.place }

-- "A jump of 0 passes nothing and lands on this window"
pub zero_passes_nothing : (s t : ℕ) → Passed 0 0 s t → ⊥
zero_passes_nothing s t p = omega (arith, p.since, p.before)

pub zero_lands_here : (s : ℕ) → landing s 0 ≡ s
zero_lands_here s = omega arith

-- a jump that does not pass t does not go beyond it
pub not_beyond : (from k s t : ℕ) → (Passed from k s t → ⊥) → s + from ≤ t → s + k ≤ t
not_beyond from k s t h l = ⊎_elim (λ (b : s + k ≤ t). b) (λ (b : t < s + k). absurd (h (record { since = l; before = b }))) (le_or_lt (s + k) t)

-- no second number has both halves
pub no_second_jump : (IsPlace E : List ℕ → ℕ → Type 0) (from j k : ℕ) → Halves IsPlace E from j → Halves IsPlace E from k → j ≡ k
no_second_jump IsPlace E from j k a b =
    ⊎_elim (λ (h : j ≤ k). ⊎_elim (λ (h' : k ≤ j). omega arith) (λ (l : j < k). absurd (shorter j k l a b)) (le_or_lt k j))
    (λ (l : k < j). absurd (shorter k j l b a)) (le_or_lt j k)
  where
    shorter : (i l : ℕ) → i < l → Halves IsPlace E from i → Halves IsPlace E from l → ⊥
    shorter i l h near far =
        let r = near.reaches in
        far.not_too_long r.y r.s (landing r.s i) r.readings r.evidence
        (record { since = omega (arith, near.onward); before = omega arith }) r.place

-- "The larger of two jumps is never too long"
pub larger_not_too_long : (IsPlace E F : List ℕ → ℕ → Type 0) (from j k : ℕ) → NotTooLong IsPlace E from j → NotTooLong IsPlace F from k
    → NotTooLong IsPlace (λ y s. E y s × F y s) from (max j k)
larger_not_too_long IsPlace E F from j k a b y s t rd e p place =
    ⊎_elim (λ (h : s + j ≤ t). b y s t rd e.1 (record { since = p.since; before = omega (arith, p.before) }) place)
    (λ (h : t < s + j). a y s t rd e.0 (record { since = p.since; before = h }) place) (le_or_lt (s + j) t)
