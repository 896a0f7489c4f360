-- A search along skip's walk: it passes probes, whose windows are counted, and none of them is a place; and how it ends. Assumes nothing.
use mathlib.Core.Path.{◌≡◌, refl, sym, subst}
use mathlib.Core.Bool.{Bool}
use mathlib.Core.List.{List}
use Prim.Native.Nat.{ℕ, zero, suc, ◌+◌, ◌-◌, ◌≤◌}
use native.Mathlib.Omega.{arith}
use lib.ListN.{length, get_or}
use borrow.Author.Tests.{le-leb}
use Rattle.fit.specs.Rule.{Rule, all_fit}
use Rattle.fit.specs.Answer.{Lent, sought_by, told, Answer}
use Rattle.fit.specs.Trying.{TriedAll, missed}
use Rattle.fit.specs.declared.answer.Found.{Found}
use Rattle.fit.proofs.Laws.Bools.{and_true}
use Rattle.fit.proofs.Laws.Rules.{by_below, by_inside, by_all, by_fit}
use Rattle.fit.proofs.Laws.Alongs.{Along, along_same, along_end}
use Rattle.fit.proofs.Laws.Filters.{kept_none}
use Rattle.std.specs.Int.Count.{ones}
use Rattle.fit.specs.Listing.{Entries}
use Rattle.marks.specs.Marks.{readings, MarkTable}
use Rattle.stops.specs.Passing.{Tables, windows_at, near_windows, Passed, StopsAt}
use Rattle.stops.specs.Passing.Passed.{none, more}
use Rattle.stops.proofs.Laws.Probing.{none_fit}
use Rattle.skip.specs.Walk.{probed, probes, skip_walk}
use Rattle.skip.proofs.Laws.Walks.{walk_end, walk_rises, walk_has, along_probe}

-- ---- where all windows of a probe lie inside, the walk has those that put a near point there
probed_whole : (near : ℕ → ℕ → Bool) (m : ℕ) (y : List ℕ) (q k : ℕ) → q + m ≤ length y → probed near m y q k ≡ windows_at (λ i. near i (get_or y q 0)) q k
unfolding probed windows_at
probed_whole near m y q zero inside = refl
probed_whole near m y q (suc k) inside =
    rw (le-leb (q - k + m) (length y) (omega arith), and_true (near k (get_or y q 0)), probed_whole near m y q k inside)

missed_none : (r : Found) → missed 0 r ≡ r
missed_none r = let e : r.tried + 0 ≡ r.tried = omega arith in λ i. record { total = r.total; tried = e i; least = r.least }

missed_more : (j k : ℕ) (r : Found) → missed k (missed j r) ≡ missed (j + k) r
missed_more j k r =
    let e : r.tried + j + k ≡ r.tried + (j + k) = omega arith in
    λ i. record { total = r.total; tried = e i; least = r.least }

-- ---- the search has come to the probe y[q]
abbrev pub Arrived : Rule → ℕ → ℕ → List ℕ → Lent → ℕ → Lent → Found → Type 0
Arrived r m gamma y entry q held found =
    Along (sought_by r m gamma y) (skip_walk r.fit m y) (probes r.fit m y (length y - q) q) (q + 1 - m) entry held found

module _ (r : Rule) (m gamma : ℕ) (y : List ℕ) {entry held : Lent} where
  -- the windows of one probe were tried, all of them inside
  pub settle_along : (q : ℕ) {held' : Lent} {before found : Found} → 1 ≤ m → m ≤ q + 1 → q + m ≤ length y → Arrived r m gamma y entry q held before
      → TriedAll (sought_by r m gamma y) (near_windows r.fit m y q) before held found held' → Arrived r m gamma y entry (q + m) held' found
  settle_along q pos low inside a tried =
      along_probe (sought_by r m gamma y) r.fit m y q pos low (omega arith) a (rw (probed_whole r.fit m y q m inside) tried)

  passed_along : {from q windows : ℕ} (before : Found) → 1 ≤ m → m ≤ from + 1 → Passed r.fit m y from q windows
      → Arrived r m gamma y entry from held before → Arrived r m gamma y entry q held (missed windows before)
  passed_along {q = q} before pos low none a = subst (Arrived r m gamma y entry q held) (sym (missed_none before)) a
  passed_along {q = q} before pos low (more {from} {count = count} {windows = windows} inside clear long p) a =
      subst (Arrived r m gamma y entry q held) (missed_more count windows before)
      (passed_along (missed count before) pos (omega arith) p
      (settle_along from pos low inside a
      (kept_none (sought_by r m gamma y) (λ s. all_fit r.fit y s m) (by_all r m gamma y) _ count (none_fit r.fit m y from low clear) long refl)))

  -- probes were passed, and their windows noted at once
  pub pass_along : (from q windows : ℕ) {before found : Found} → 1 ≤ m → m ≤ from + 1 → Passed r.fit m y from q windows → found ≡ missed windows before
      → Arrived r m gamma y entry from held before → Arrived r m gamma y entry q held found
  pass_along from q windows {before} pos low p e a = subst (Arrived r m gamma y entry q held) (sym e) (passed_along before pos low p a)

  -- and what is known where it stops, by the tables of the rule
  pub stop_along : (from q windows mask m' : ℕ) (masks counts : List ℕ) {before found : Found} → 1 ≤ m → m ≤ from + 1 → m' ≡ m
      → MarkTable m r.fit masks → Entries (λ (a : ℕ). ones (get_or masks a 0)) readings counts
      → ((fit : ℕ → ℕ → Bool) → Tables m' fit masks counts → Passed fit m' y from q windows × StopsAt fit m' y q mask) → found ≡ missed windows before
      → Arrived r m gamma y entry from held before → Arrived r m gamma y entry q held found × StopsAt r.fit m y q mask
  stop_along from q windows mask m' masks counts pos low same marks counted told e a =
      let stop = (rw same at (told r.fit)) (record { marks = marks; counted = counted }) in
      (pass_along from q windows pos low stop.0 e a, stop.1)

  -- no probe is left: the search has its answer
  pub walk_answer : (q : ℕ) {found : Found} → 1 ≤ m → length y ≤ q → Arrived r m gamma y entry q held found
      → Answer 0 (sought_by r m gamma y) (length (skip_walk r.fit m y)) entry (told found) held
  walk_answer q pos end a =
      along_end (sought_by r m gamma y) (skip_walk r.fit m y) (q + 1 - m) (length (skip_walk r.fit m y)) (λ s p. by_below r m gamma y s p) refl
      (walk_rises r.fit m y pos) (λ s p. walk_has r.fit m y s pos (by_inside r m gamma y s p) (by_fit r m gamma y s p))
      (along_same (walk_end r.fit m y q end) a)
