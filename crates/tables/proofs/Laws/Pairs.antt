-- Of a list and itself further on: what its pairs say. Assumes nothing.
use Prim.Native.Nat.{ℕ, ◌+◌, ◌-◌, ◌*◌, ◌<◌}
use mathlib.Core.Path.{◌≡◌, sym, ap, ◌∙◌}
use mathlib.Core.Bool.{Bool, true, false}
use mathlib.Core.List.{List}
use native.Mathlib.Nat.{add_comm}
use native.Mathlib.Omega.{arith}
use lib.ListN.{length, get_or, drop, length-drop}
use Rattle.std.specs.Bool.{MatchBool}
use Rattle.std.specs.List.{zip, AllWithin, HoldsAt}
use Rattle.std.proofs.lemmas.List.{get_or-drop}
use Rattle.std.proofs.lemmas.Slice.Zip.{length-zip, get_or-zip}
use Rattle.fit.specs.Reading.{alike}
use Rattle.jumps.specs.Jumps.{full_at}
use Rattle.jumps.proofs.Laws.Conditions.{alike_miss, is_full}

module _ (d : ℕ) (x : List ℕ) (k : ℕ) where
  abbrev pairs : List (ℕ × ℕ)
  pairs = zip x (drop k x)

  long : length pairs ≡ length x - k
  long = length-zip x (drop k x) ∙ omega (arith, length-drop k x)

  pair_at : (i : ℕ) → i < length x - k → get_or pairs i (0, 0) ≡ (get_or x i 0, get_or x (i + k) 0)
  pair_at i l = get_or-zip x (drop k x) i (0, 0) (omega arith) (omega (arith, length-drop k x)) ∙ ap (λ (v : ℕ). (get_or x i 0, v)) (get_or-drop k x i 0 ∙ ap (λ (j : ℕ). get_or x j 0) (add_comm k i))

  pub all_pairs : (r : Bool) → MatchBool r (AllWithin (λ (p : ℕ × ℕ). alike (2 * d) p.0 p.1 ≡ true) pairs 0 (length pairs))
      ((i : ℕ) × (i < length pairs) × HoldsAt (λ (p : ℕ × ℕ). alike (2 * d) p.0 p.1 ≡ false) pairs i) → r ≡ full_at d x k
  all_pairs true h = sym (is_full d x k (λ i l. rw (pair_at i (omega arith)) at (h i (0, 0) (omega arith) (omega (arith, long)))))
  all_pairs false h = sym (alike_miss d x k h.0 (omega (arith, long, h.1)) (rw (pair_at h.0 (omega (arith, long, h.1))) at (h.2 (0, 0))))
