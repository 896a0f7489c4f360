-- Rising lists are told by their members; so a rising list of windows that has all that is sought, filtered by the test, is all of it.
-- Assumes nothing.
use mathlib.Core.Path.{◌≡◌, refl, sym, ap, ap₂, ◌∙◌}
use mathlib.Core.Bool.{Bool, true, false, cond}
use mathlib.Core.Logic.{◌⊎◌, inl, inr, ⊎_elim}
use mathlib.Core.List.Memᴰ
use mathlib.Core.List.{List, [], ◌∷◌, ◌++◌, Memᴰ}
use Prim.Native.Nat.{ℕ, zero, suc, ◌≤◌, ◌<◌}
use native.Mathlib.Nat.{le_trans, not-suc-le-zero, eq-or-lt_of_le, le_of_suc-le-suc}
use native.Mathlib.Omega.{arith}
use lib.ListN.{get_or}
use Rattle.fit.specs.Listing.{up_to, Rising, those}
use Rattle.fit.specs.Listing.Rising.{none, next}

-- ---- members of up_to
in_behind : (b : Bool) (k : ℕ) (l : List ℕ) {s : ℕ} → Memᴰ s (cond b (l ++ (k ∷ [])) l) → ((s ≡ k) × (b ≡ true)) ⊎ Memᴰ s l
in_behind true k l h = ⊎_elim (λ m. inr m) (λ m. inl (Memᴰ.eq_of_singleton m, refl)) (Memᴰ.append_cases l h)
in_behind false k l h = inr h

old_behind : (b : Bool) (k : ℕ) (l : List ℕ) {s : ℕ} → Memᴰ s l → Memᴰ s (cond b (l ++ (k ∷ [])) l)
old_behind true k l h = Memᴰ.append_left (k ∷ []) h
old_behind false k l h = h

new_behind : (b : Bool) (k : ℕ) (l : List ℕ) → b ≡ true → Memᴰ k (cond b (l ++ (k ∷ [])) l)
new_behind b k l e = rw e (Memᴰ.append_right l (Memᴰ.head refl))

pub in_up : (p : ℕ → Bool) (k : ℕ) {s : ℕ} → Memᴰ s (up_to p k) → (s < k) × (p s ≡ true)
unfolding up_to
in_up p zero h = absurd (Memᴰ.not-nil h)
in_up p (suc k) {s} h =
    ⊎_elim (λ e. (omega (arith, e.0), ap p e.0 ∙ e.1))
    (λ m. let r = in_up p k m in (omega (arith, r.0), r.1))
    (in_behind (p k) k (up_to p k) h)

pub up_in : (p : ℕ → Bool) (k s : ℕ) → s < k → p s ≡ true → Memᴰ s (up_to p k)
unfolding up_to
up_in p zero s h e = absurd (not-suc-le-zero h)
up_in p (suc k) s h e =
    ⊎_elim (λ q. Memᴰ.cast q (new_behind (p k) k (up_to p k) (sym (ap p q) ∙ e)))
    (λ l. old_behind (p k) k (up_to p k) (up_in p k s l e))
    (eq-or-lt_of_le (le_of_suc-le-suc h))

-- ---- rising lists
pub rising_min : {b a : ℕ} {l : List ℕ} → Rising b l → Memᴰ a l → b ≤ a
rising_min none m = absurd (Memᴰ.not-nil m)
rising_min (next h r) m = ⊎_elim (λ e. omega (arith, e)) (λ n. omega (arith, h, rising_min r n)) (Memᴰ.cases_cons m)

-- the first entry of a rising list is the least
pub rising_first : {b t : ℕ} {l : List ℕ} → Rising b l → Memᴰ t l → get_or l 0 0 ≤ t
rising_first none m = absurd (Memᴰ.not-nil m)
rising_first (next h r) m = ⊎_elim (λ e. omega (arith, e)) (λ n. omega (arith, rising_min r n)) (Memᴰ.cases_cons m)

pub rising_from : {b c : ℕ} {l : List ℕ} → c ≤ b → Rising b l → Rising c l
rising_from e none = none
rising_from e (next h r) = next (le_trans e h) r

-- one rising list behind another
pub rising_append : {b c : ℕ} {l r : List ℕ} → Rising b l → b ≤ c → ((a : ℕ) → Memᴰ a l → a < c) → Rising c r → Rising b (l ++ r)
rising_append none le h q = rising_from le q
rising_append (next {a = a} g r) le h q = next g (rising_append r (h a (Memᴰ.head refl)) (λ x m. h x (Memᴰ.tail m)) q)

rising_behind : (b : Bool) (k : ℕ) (l : List ℕ) → Rising 0 l → ((a : ℕ) → Memᴰ a l → a < k) → Rising 0 (cond b (l ++ (k ∷ [])) l)
rising_behind true k l r h = rising_append r (omega arith) h (next {a = k} (omega arith) none)
rising_behind false k l r h = r

pub rising_up : (p : ℕ → Bool) (k : ℕ) → Rising 0 (up_to p k)
unfolding up_to
rising_up p zero = none
rising_up p (suc k) = rising_behind (p k) k (up_to p k) (rising_up p k) (λ a m. (in_up p k m).0)

-- rising lists with the same members are the same
heads : {a a' : ℕ} {l l' : List ℕ} → Rising (suc a) l → Rising (suc a') l' → Memᴰ a (a' ∷ l') → Memᴰ a' (a ∷ l) → a ≡ a'
heads r r' m m' =
    ⊎_elim (λ e. e)
    (λ n. ⊎_elim (λ e. sym e) (λ n'. absurd (omega (arith, rising_min r n', rising_min r' n))) (Memᴰ.cases_cons m'))
    (Memᴰ.cases_cons m)

tails : {a a' x : ℕ} {l l' : List ℕ} → a ≡ a' → Rising (suc a) l → Memᴰ x l → Memᴰ x (a' ∷ l') → Memᴰ x l'
tails e r m n = ⊎_elim (λ q. absurd (omega (arith, rising_min r m, q, e))) (λ k. k) (Memᴰ.cases_cons n)

pub rising_same : {b b' : ℕ} {l l' : List ℕ} → Rising b l → Rising b' l'
    → ((a : ℕ) → Memᴰ a l → Memᴰ a l') → ((a : ℕ) → Memᴰ a l' → Memᴰ a l) → l ≡ l'
rising_same none none f g = refl
rising_same none (next {a = a} h r) f g = absurd (Memᴰ.not-nil (g a (Memᴰ.head refl)))
rising_same (next {a = a} h r) none f g = absurd (Memᴰ.not-nil (f a (Memᴰ.head refl)))
rising_same (next {a = a} {l = l} h r) (next {a = a'} {l = l'} h' r') f g =
    let e : a ≡ a' = heads r r' (f a (Memᴰ.head refl)) (g a' (Memᴰ.head refl)) in
    ap₂ (λ (x : ℕ) (t : List ℕ). x ∷ t) e
    (rising_same r r' (λ x m. tails e r m (f x (Memᴰ.tail m))) (λ x m. tails (sym e) r' m (g x (Memᴰ.tail m))))

-- ---- a window in front, where a test holds
pub in_front : (b : Bool) (a : ℕ) (l : List ℕ) {s : ℕ} → Memᴰ s (cond b (a ∷ l) l) → ((s ≡ a) × (b ≡ true)) ⊎ Memᴰ s l
in_front true a l h = ⊎_elim (λ e. inl (e, refl)) (λ m. inr m) (Memᴰ.cases_cons h)
in_front false a l h = inr h

pub old_front : (b : Bool) (a : ℕ) (l : List ℕ) {s : ℕ} → Memᴰ s l → Memᴰ s (cond b (a ∷ l) l)
old_front true a l h = Memᴰ.tail h
old_front false a l h = h

pub new_front : (b : Bool) (a : ℕ) (l : List ℕ) → b ≡ true → Memᴰ a (cond b (a ∷ l) l)
new_front b a l e = rw e (Memᴰ.head refl)

pub rising_front : (t : Bool) (b a : ℕ) (l : List ℕ) → b ≤ a → Rising (suc a) l → Rising b (cond t (a ∷ l) l)
rising_front true b a l h r = next h r
rising_front false b a l h r = rising_from (omega arith) r

-- ---- those that pass a test
pub in_those : (p : ℕ → Bool) (l : List ℕ) {s : ℕ} → Memᴰ s (those p l) → Memᴰ s l × (p s ≡ true)
unfolding those
in_those p [] h = absurd (Memᴰ.not-nil h)
in_those p (a ∷ l) {s} h =
    ⊎_elim (λ e. (Memᴰ.head e.0, ap p e.0 ∙ e.1))
    (λ m. let r = in_those p l m in (Memᴰ.tail r.0, r.1))
    (in_front (p a) a (those p l) h)

pub those_in : (p : ℕ → Bool) (l : List ℕ) {s : ℕ} → Memᴰ s l → p s ≡ true → Memᴰ s (those p l)
unfolding those
those_in p [] h e = absurd (Memᴰ.not-nil h)
those_in p (a ∷ l) {s} h e =
    ⊎_elim (λ q. Memᴰ.cast q (new_front (p a) a (those p l) (sym (ap p q) ∙ e)))
    (λ m. old_front (p a) a (those p l) (those_in p l m e))
    (Memᴰ.cases_cons h)

pub rising_those : (p : ℕ → Bool) {b : ℕ} {l : List ℕ} → Rising b l → Rising b (those p l)
unfolding those
rising_those p none = none
rising_those p {b} (next {a = a} {l = l} h r) = rising_front (p a) b a (those p l) h (rising_those p r)

-- ---- the general law of walks: a rising list that has every s that passes, filtered by the test, is all that pass below count
pub finds_all : (p : ℕ → Bool) (count : ℕ) (walk : List ℕ) → ((s : ℕ) → p s ≡ true → s < count) → Rising 0 walk
    → ((s : ℕ) → p s ≡ true → Memᴰ s walk) → those p walk ≡ up_to p count
finds_all p count walk below rises has =
    rising_same (rising_those p rises) (rising_up p count)
    (λ s m. let e = (in_those p walk m).1 in up_in p count s (below s e) e)
    (λ s m. let e = (in_up p count m).1 in those_in p walk (has s e) e)
