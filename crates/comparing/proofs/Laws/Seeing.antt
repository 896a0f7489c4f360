-- For the searcher that compares points in their order: what it has seen where it leaves. Assumes nothing.
use Prim.Native.Nat.{ℕ, ◌+◌, ◌≤◌, ◌<◌}
use mathlib.Core.Path.{◌≡◌, subst}
use mathlib.Core.Bool.{true, false}
use mathlib.Core.List.{List}
use lib.ListN.{length, get_or}
use Rattle.fit.specs.Reading.{near}
use Rattle.fit.specs.Rule.{reading_at}
use Rattle.jumps.specs.Demand.{Mismatch, AllNear}
use Rattle.jumps.proofs.Laws.Keeps.{mismatch_seen, all_near}
use Rattle.comparing.specs.Order.{compare_order}
use Rattle.comparing.proofs.Laws.Orders.{order_has, earlier_before}

module _ (d : ℕ) (x y : List ℕ) (s : ℕ) (inside : s + length x ≤ length y) where
  -- the first j points of the order were near, and the next one was not
  pub first_far : (j : ℕ) → ((i : ℕ) → i < j → near d (get_or x (get_or (compare_order d x) i 0) 0) (reading_at y s (get_or (compare_order d x) i 0)) ≡ true)
      → near d (get_or x (get_or (compare_order d x) j 0) 0) (reading_at y s (get_or (compare_order d x) j 0)) ≡ false
      → Mismatch d x (get_or (compare_order d x) j 0) y s
  first_far j before far =
      mismatch_seen d x y s inside (get_or (compare_order d x) j 0)
      (λ q l e. let r = earlier_before d x q j l e in
      subst (λ (p : ℕ). near d (get_or x p 0) (reading_at y s p) ≡ true) r.2 (before r.0 r.1)) far

  -- all of them were near
  pub none_far : ((i : ℕ) → i < length x → near d (get_or x (get_or (compare_order d x) i 0) 0) (reading_at y s (get_or (compare_order d x) i 0)) ≡ true) → AllNear d x y s
  none_far f = all_near d x y s inside (λ q l.
      let r = order_has d x q l in
      subst (λ (p : ℕ). near d (get_or x p 0) (reading_at y s p) ≡ true) r.2 (f r.0 r.1))
