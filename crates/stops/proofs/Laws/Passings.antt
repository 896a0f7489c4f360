-- Laws of passed probes: one more, that they are passed in one way alone, and that there is no second stop. Assumes nothing.
use mathlib.Core.Path.{◌≡◌, refl, sym, ap, subst, ap₂, ◌∙◌}
use mathlib.Core.Bool.{Bool}
use mathlib.Core.List.{List}
use Prim.Native.Nat.{ℕ, ◌+◌, ◌≤◌, ◌<◌}
use native.Mathlib.Omega.{arith}
use lib.ListN.{length}
use mathlib.Core.Logic.{⊎_elim}
use Rattle.std.specs.Prelude.{Option, None, Some, MatchOption}
use Rattle.std.specs.Option.{unwrap_or}
use Rattle.fit.proofs.Laws.Bools.{le_or_lt}
use Rattle.marks.specs.Marks.{Marks}
use Rattle.marks.proofs.Laws.Marking.{no_second_marks}
use Rattle.probe.specs.Around.{around_suits}
use Rattle.stops.specs.Passing.{near_windows, Passed, StopsAt}
use Rattle.stops.specs.Passing.Passed.{none, more}

module _ (near : ℕ → ℕ → Bool) (m : ℕ) (y : List ℕ) where
  -- one probe more is passed
  pub passed_more : {from q windows count : ℕ} → q + m ≤ length y → Marks m (around_suits near m y q 1) 0 → length (near_windows near m y q) ≡ count
      → Passed near m y from q windows → Passed near m y from (q + m) (windows + count)
  passed_more {count = count} inside clear long none =
      let e : count + 0 ≡ 0 + count = omega arith in
      subst (Passed near m y _ _) e (more inside clear long none)
  passed_more {count = count} inside clear long (more {from} {count = first} {windows = windows} inside' clear' long' p) =
      let e : first + (windows + count) ≡ first + windows + count = omega arith in
      subst (Passed near m y from _) e (more inside' clear' long' (passed_more inside clear long p))

  -- a probe that is passed is no stop
  no_stop : {q mask : ℕ} → q + m ≤ length y → Marks m (around_suits near m y q 1) 0 → StopsAt near m y q mask → ⊥
  no_stop {q} {mask} inside clear stop =
      let here = stop.inside inside in
      omega (arith, here.1, no_second_marks m (around_suits near m y q 1) mask 0 here.0 clear)

  -- so there is no second stop, nor another number of windows on the way
  pub no_second_stop : {from q q' windows windows' mask mask' : ℕ} → Passed near m y from q windows → StopsAt near m y q mask
      → Passed near m y from q' windows' → StopsAt near m y q' mask' → (q ≡ q') × (windows ≡ windows') × (mask ≡ mask')
  no_second_stop {mask = mask} {mask'} none s none s' = (refl, refl, same)
    where
      same : mask ≡ mask'
      same = ⊎_elim (λ (h : _ + m ≤ length y). no_second_marks m _ mask mask' (s.inside h).0 (s'.inside h).0) (λ (h : length y < _ + m). s.outside h ∙ sym (s'.outside h)) (le_or_lt (_ + m) (length y))
  no_second_stop none s (more inside clear long p) s' = absurd (no_stop inside clear s)
  no_second_stop (more inside clear long p) s none s' = absurd (no_stop inside clear s')
  no_second_stop (more inside clear long p) s (more inside' clear' long' p') s' =
      let rest = no_second_stop p s p' s' in
      (rest.0, ap₂ (λ (a b : ℕ). a + b) (sym long ∙ long') rest.1, rest.2)

-- nor, as it is told, a second mask: where there is none, the stop's is 0
pub no_second_mask : (P P' Q Q' : Type 0) (o o' : Option ℕ) → MatchOption o P (λ mask. (0 < mask) × Q) → MatchOption o' P' (λ mask. (0 < mask) × Q')
    → unwrap_or o 0 ≡ unwrap_or o' 0 → o ≡ o'
no_second_mask P P' Q Q' None None a b e = refl
no_second_mask P P' Q Q' None (Some mask) a b e = absurd (omega (arith, e, b.0))
no_second_mask P P' Q Q' (Some mask) None a b e = absurd (omega (arith, e, a.0))
no_second_mask P P' Q Q' (Some mask) (Some mask') a b e = ap (λ (n : ℕ). Some n) e
