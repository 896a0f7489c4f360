-- Laws of places: relation and test say the same, the list has exactly the places, and (d, g) gives the same ones. Assumes nothing.
use mathlib.Core.Path.{◌≡◌, refl, sym}
use mathlib.Core.Bool.{true, ◌&&◌}
use mathlib.Core.List.{List, Memᴰ}
use Prim.Native.Nat.{ℕ, ◌+◌, ◌≤◌, ◌<◌}
use native.Mathlib.Omega.{arith}
use lib.ListN.{length, get_or}
use lib.Dec.{leb}
use borrow.Author.Tests.{leb-true, le-leb}
use Rattle.fit.specs.Reading.{diff, near}
use Rattle.fit.specs.Rule.{reading_at, is_place_by, near_by, cut_at, SameRule}
use Rattle.fit.specs.Place.{fit_of, cost_of, rule_of, sum_diff, Place, is_place, windows, d_of, g_of}
use Rattle.fit.specs.Listing.{places, Rising, those}
use Rattle.fit.proofs.Laws.Bools.{and_left, and_right, and_both, same_test}
use Rattle.fit.proofs.Laws.Readings.{zero_below, near_le, near_lowest, le_near, near_wider}
use Rattle.fit.proofs.Laws.Listings.{up_same}
use Rattle.fit.proofs.Laws.Risings.{in_up, up_in, rising_up, rising_same, finds_all}
use Rattle.fit.proofs.Laws.Rules.{fit_all, sum_term, sum_bound, by_is, by_inside, by_fit, by_within, same_cut}

-- ---- the relation, by what is near: callers make and read places so
module _ (delta gamma : ℕ) (x y : List ℕ) (s : ℕ) where
  pub place_of : s + length x ≤ length y → ((i : ℕ) → i < length x → near delta (get_or x i 0) (reading_at y s i) ≡ true) → sum_diff x y s ≤ gamma
      → Place delta gamma x y s
  place_of inside each within =
      record {
        inside = inside;
        real = λ i h. near_lowest delta (get_or x i 0) (reading_at y s i) (each i h);
        each = λ i h. near_le delta (get_or x i 0) (reading_at y s i) (each i h);
        within = within;
      }

  pub place_fits : Place delta gamma x y s → (i : ℕ) → i < length x → near delta (get_or x i 0) (reading_at y s i) ≡ true
  place_fits p i h = le_near delta (get_or x i 0) (reading_at y s i) (p.real i h) (p.each i h)

  -- "a window holding a 0 is not a place, whatever the tolerances" (#103)
  pub zero_no_place : (i : ℕ) → i < length x → reading_at y s i ≡ 0 → Place delta gamma x y s → ⊥
  zero_no_place i h e p = zero_below (rw e at (p.real i h))

-- ---- relation and test say the same
module _ (delta gamma : ℕ) (x y : List ℕ) (s : ℕ) where
  pub place_test : Place delta gamma x y s → is_place delta gamma x y s ≡ true
  unfolding is_place
  place_test p =
      by_is (rule_of delta x) (length x) gamma y s p.inside (fit_all (fit_of delta x) y s (length x) (place_fits delta gamma x y s p)) p.within

  pub test_place : is_place delta gamma x y s ≡ true → Place delta gamma x y s
  unfolding is_place
  test_place e =
      place_of delta gamma x y s (by_inside (rule_of delta x) (length x) gamma y s e) (by_fit (rule_of delta x) (length x) gamma y s e)
      (by_within (rule_of delta x) (length x) gamma y s e)

  -- so say the relation and the test under the profile's rule
  pub place_by : Place delta gamma x y s → is_place_by (rule_of delta x) (length x) gamma y s ≡ true
  unfolding is_place
  place_by p = place_test p

  pub by_place : is_place_by (rule_of delta x) (length x) gamma y s ≡ true → Place delta gamma x y s
  unfolding is_place
  by_place e = test_place e

  -- a place is one of the windows
  pub place_below : Place delta gamma x y s → s < windows (length x) (length y)
  place_below p = omega (arith, p.inside)

-- ---- the list of places
module _ (delta gamma : ℕ) (x y : List ℕ) where
  pub in_places : {s : ℕ} → Memᴰ s (places delta gamma x y) → Place delta gamma x y s
  unfolding places
  in_places {s} m = test_place delta gamma x y s (in_up (is_place delta gamma x y) _ m).1

  pub place_in : (s : ℕ) → Place delta gamma x y s → Memᴰ s (places delta gamma x y)
  unfolding places
  place_in s p = up_in (is_place delta gamma x y) (windows (length x) (length y)) s (place_below delta gamma x y s p) (place_test delta gamma x y s p)

  -- each once, strictly rising
  pub places_rise : Rising 0 (places delta gamma x y)
  unfolding places
  places_rise = rising_up (is_place delta gamma x y) (windows (length x) (length y))

  -- no other rising list has just the places
  pub only_places : (l : List ℕ) → Rising 0 l → ((s : ℕ) → Memᴰ s l → Place delta gamma x y s)
      → ((s : ℕ) → Place delta gamma x y s → Memᴰ s l) → l ≡ places delta gamma x y
  only_places l r f g = rising_same r places_rise (λ s m. place_in s (f s m)) (λ s m. g s (in_places m))

  -- a rising list of windows that has every place, filtered by the test, is the places
  pub finds_places : (walk : List ℕ) → Rising 0 walk → ((s : ℕ) → Place delta gamma x y s → Memᴰ s walk)
      → those (is_place delta gamma x y) walk ≡ places delta gamma x y
  unfolding places
  finds_places walk rises has =
      finds_all (is_place delta gamma x y) (windows (length x) (length y)) walk (λ s e. place_below delta gamma x y s (test_place delta gamma x y s e)) rises
      (λ s e. has s (test_place delta gamma x y s e))

-- ---- "Tolerances (d, g) give the same places as (delta, gamma)"
module _ (delta gamma : ℕ) (x y : List ℕ) (s : ℕ) where
  -- each reading of a place is near its point by d
  pub place_near : Place delta gamma x y s → (i : ℕ) → i < length x → near (d_of delta gamma) (get_or x i 0) (reading_at y s i) ≡ true
  place_near p i h =
      le_near (d_of delta gamma) (get_or x i 0) (reading_at y s i) (p.real i h)
      (omega (arith, p.each i h, sum_term (cost_of x) y s (length x) i h, p.within))

  pub place_down : Place delta gamma x y s → Place (d_of delta gamma) (g_of (length x) delta gamma) x y s
  place_down p =
      place_of (d_of delta gamma) (g_of (length x) delta gamma) x y s p.inside (place_near p)
      (omega
      (arith, p.within, sum_bound (cost_of x) y s (length x) (d_of delta gamma) (λ i h. near_le (d_of delta gamma) (get_or x i 0) (reading_at y s i) (place_near p i h))))

  pub place_up : Place (d_of delta gamma) (g_of (length x) delta gamma) x y s → Place delta gamma x y s
  place_up p =
      place_of delta gamma x y s p.inside
      (λ i h. near_wider (d_of delta gamma) delta (get_or x i 0) (reading_at y s i) (omega arith) (place_fits (d_of delta gamma) (g_of (length x) delta gamma) x y s p i h))
      (omega (arith, p.within))

  derived_test : is_place (d_of delta gamma) (g_of (length x) delta gamma) x y s ≡ is_place delta gamma x y s
  derived_test =
      same_test _ _ (λ e. place_test delta gamma x y s (place_up (test_place _ _ x y s e)))
      (λ e. place_test _ _ x y s (place_down (test_place delta gamma x y s e)))

pub derived_places : (delta gamma : ℕ) (x y : List ℕ) → places (d_of delta gamma) (g_of (length x) delta gamma) x y ≡ places delta gamma x y
unfolding places
derived_places delta gamma x y = up_same _ _ (windows (length x) (length y)) (λ s h. derived_test delta gamma x y s)

-- a reading that suits its point at a cost of at most gamma is one that is near by d
pub near_derived : (delta gamma : ℕ) (x : List ℕ) (i a : ℕ) → near_by (rule_of delta x) gamma i a ≡ fit_of (d_of delta gamma) x i a
near_derived delta gamma x i a =
    let p = get_or x i 0 in
    same_test (near delta p a && leb (diff p a) gamma) (near (d_of delta gamma) p a)
    (λ t. let n = and_left (near delta p a) (leb (diff p a) gamma) t in
    le_near (d_of delta gamma) p a (near_lowest delta p a n)
    (omega (arith, near_le delta p a n, leb-true (diff p a) gamma (and_right (near delta p a) (leb (diff p a) gamma) t))))
    (λ t. and_both (near delta p a) (leb (diff p a) gamma) (near_wider (d_of delta gamma) delta p a (omega arith) t)
    (le-leb (diff p a) gamma (omega (arith, near_le (d_of delta gamma) p a t))))

-- so an ordinary profile by d asks what it asks by delta, cut at gamma, and has the same places
pub derived_rule : (delta gamma : ℕ) (x : List ℕ) → SameRule (length x) (rule_of (d_of delta gamma) x) (cut_at gamma (rule_of delta x))
derived_rule delta gamma x = record { same_fit = λ i a l. sym (near_derived delta gamma x i a); same_cost = λ i a l e. refl }

pub by_derived : (delta gamma : ℕ) (x y : List ℕ) (s : ℕ) → is_place_by (rule_of (d_of delta gamma) x) (length x) gamma y s ≡ is_place_by (rule_of delta x) (length x) gamma y s
by_derived delta gamma x y s = same_cut (length x) (rule_of (d_of delta gamma) x) (rule_of delta x) gamma (derived_rule delta gamma x) y s
