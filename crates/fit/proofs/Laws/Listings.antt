-- Laws of `up_to` and `overlay`. Assumes nothing.
use mathlib.Core.Path.{◌≡◌, refl, ap}
use mathlib.Core.Bool.{Bool, true, false, cond}
use mathlib.Core.List.{List, [], ◌∷◌, ◌++◌}
use Prim.Native.Nat.{ℕ, zero, suc, ◌≤◌, ◌<◌}
use native.Mathlib.Nat.{not-suc-le-zero, le_of_suc-le-suc}
use native.Mathlib.Omega.{arith}
use lib.ListN.{length, set, get_or, take, drop, length-append}
use Rattle.fit.specs.Listing.{up_to, overlay}

-- tests that agree below k list the same
pub up_same : (p q : ℕ → Bool) (k : ℕ) → ((s : ℕ) → s < k → p s ≡ q s) → up_to p k ≡ up_to q k
unfolding up_to
up_same p q zero h = refl
up_same p q (suc k) h = rw (h k (omega arith), up_same p q k (λ s l. h s (omega arith)))

-- no more pass than there are
pub up_short : (p : ℕ → Bool) (k : ℕ) → length (up_to p k) ≤ k
unfolding up_to
up_short p zero = omega arith
up_short p (suc k) = by_test (up_short p k) (p k)
  where
    by_test : length (up_to p k) ≤ k → (b : Bool) → length (cond b (up_to p k ++ (k ∷ [])) (up_to p k)) ≤ suc k
    by_test h true = omega (arith, h, length-append (up_to p k) (k ∷ []))
    by_test h false = omega (arith, h)

-- ---- what a lent list holds
pub overlay_none : (entry : List ℕ) → overlay [] entry ≡ entry
unfolding overlay
overlay_none entry = refl

-- one more, whether or not it fits: `set` changes nothing past the end
pub overlay_more : (ps entry : List ℕ) (v : ℕ) → set (overlay ps entry) (length ps) v ≡ overlay (ps ++ (v ∷ [])) entry
unfolding overlay
overlay_more [] [] v = refl
overlay_more [] (e ∷ entry) v = refl
overlay_more (p ∷ ps) [] v = refl
overlay_more (p ∷ ps) (e ∷ entry) v = ap (λ (l : List ℕ). p ∷ l) (overlay_more ps entry v)

pub length_overlay : (ps entry : List ℕ) → length (overlay ps entry) ≡ length entry
unfolding overlay
length_overlay [] entry = refl
length_overlay (p ∷ ps) [] = refl
length_overlay (p ∷ ps) (e ∷ entry) = ap suc (length_overlay ps entry)

-- "the first places, as many as fit", and then the entries beyond those
pub overlay_is : (ps entry : List ℕ) → overlay ps entry ≡ take (length entry) ps ++ drop (length ps) entry
unfolding overlay
overlay_is [] [] = refl
overlay_is [] (e ∷ entry) = refl
overlay_is (p ∷ ps) [] = refl
overlay_is (p ∷ ps) (e ∷ entry) = ap (λ (l : List ℕ). p ∷ l) (overlay_is ps entry)

-- where they all fit, each can be read back
pub overlay_at : (ps entry : List ℕ) (k : ℕ) → k < length ps → length ps ≤ length entry → get_or (overlay ps entry) k 0 ≡ get_or ps k 0
unfolding overlay
overlay_at [] entry k h l = absurd (not-suc-le-zero h)
overlay_at (p ∷ ps) [] k h l = absurd (not-suc-le-zero l)
overlay_at (p ∷ ps) (e ∷ entry) zero h l = refl
overlay_at (p ∷ ps) (e ∷ entry) (suc k) h l = overlay_at ps entry k (le_of_suc-le-suc h) (le_of_suc-le-suc l)

-- the first is laid first, into a list that has room for one
pub overlay_first : (ps entry : List ℕ) → 1 ≤ length ps → 1 ≤ length entry → get_or (overlay ps entry) 0 0 ≡ get_or ps 0 0
unfolding overlay
overlay_first [] entry h l = absurd (not-suc-le-zero h)
overlay_first (p ∷ ps) [] h l = absurd (not-suc-le-zero l)
overlay_first (p ∷ ps) (e ∷ entry) h l = refl

pub take_overlay : (ps entry : List ℕ) → length ps ≤ length entry → take (length ps) (overlay ps entry) ≡ ps
unfolding overlay
take_overlay [] entry l = refl
take_overlay (p ∷ ps) [] l = absurd (not-suc-le-zero l)
take_overlay (p ∷ ps) (e ∷ entry) l = ap (λ (k : List ℕ). p ∷ k) (take_overlay ps entry (le_of_suc-le-suc l))
