-- Laws of windows that follow each other without a gap: `run s k` are the k windows from s on. Assumes nothing.
use mathlib.Core.Path.{◌≡◌, refl, sym, ap, ◌∙◌}
use mathlib.Core.Bool.{Bool, true, false}
use mathlib.Core.Logic.{⊎_elim}
use mathlib.Core.List.Memᴰ
use mathlib.Core.List.{List, [], ◌∷◌, ◌++◌, map, append-nil, Memᴰ}
use Prim.Native.Nat.{ℕ, zero, suc, ◌+◌, ◌-◌, ◌≤◌, ◌<◌}
use native.Mathlib.Omega.{arith}
use lib.ListN.{length}
use Rattle.fit.specs.Listing.{those}
use Rattle.fit.specs.Walk.{walk_by, every_window}
use Rattle.fit.specs.Answer.{Sought, Lent, nothing, told, Answer, Tried}
use Rattle.fit.specs.Trying.{TriedAll, missed, run}
use Rattle.fit.specs.declared.answer.Found.{Found}
use Rattle.fit.proofs.Laws.Sums.{sums_same}
use Rattle.fit.proofs.Laws.Risings.{in_those}
use Rattle.fit.proofs.Laws.Steps.{every_start, every_step, every_end, every_rises, every_has, every_count}
use Rattle.fit.proofs.Laws.Alongs.{along_start, along_same, along_end}
use Rattle.fit.proofs.Laws.Tryings.{tried_none, tried_first, along_all, Trying, trying_start, trying_pass, trying_all, trying_end}
use Rattle.fit.proofs.Laws.Filters.{tried_same, none_tried}

run_length : (s k : ℕ) → length (run s k) ≡ k
unfolding run
run_length s zero = refl
run_length s (suc k) = ap suc (run_length (s + 1) k)

-- the first k of n, and the others
run_parts : (s k n : ℕ) → k ≤ n → run s n ≡ run s k ++ run (s + k) (n - k)
unfolding run
run_parts s zero n h =
    let here : s + 0 ≡ s = omega arith in
    let all : n - 0 ≡ n = omega arith in
    rw (here, all)
run_parts s (suc k) zero h = absurd (omega arith)
run_parts s (suc k) (suc n) h =
    let next : s + 1 + k ≡ s + suc k = omega arith in
    let rest : suc n - suc k ≡ n - k = omega arith in
    ap (λ (l : List ℕ). s ∷ l) (rw rest (rw next at (run_parts (s + 1) k n (omega arith))))

-- ---- the windows below `end` are being tried one after the other, and those before s were
pub running_start : (t : Sought) (s s' k end : ℕ) {entry : Lent} {before : Found} → s' ≡ s → end ≡ s + k → before.total ≤ before.tried → before.tried ≤ s
    → Trying t (run s k) (run s' (end - s')) s' entry entry before before
running_start t s s' k end {entry} {before} z e o h =
    let all : end - s ≡ k = omega arith in
    rw (z, all) (trying_start t (run s k) s entry before o h)

-- from the first window on
pub running_begun : (t : Sought) (count : ℕ) {entry : Lent} {before : Found} → before ≡ nothing → Trying t (run 0 count) (run 0 (count - 0)) 0 entry entry before before
running_begun t count e = rw e (running_start t 0 0 count count refl (omega arith) (omega arith) (omega arith))

module _ (t : Sought) (s end : ℕ) {whole : List ℕ} {entry held : Lent} {before found : Found} (f : Trying t whole (run s (end - s)) s entry held before found) where
  -- k of them at once
  pub running_all : (k s' : ℕ) {held' : Lent} {r : Found} → s' ≡ s + k → s' ≤ end → TriedAll t (run s k) found held r held'
      → Trying t whole (run s' (end - s')) s' entry held' before r
  running_all k s' e h a =
      let rest : end - s - k ≡ end - s' = omega arith in
      let parts : run s (end - s) ≡ run s k ++ run s' (end - s') = rw (run_parts s k (end - s) (omega arith), rest, ← e) in
      trying_all t (run s k) s s' (trying_pass t s s f parts (omega arith)) a (omega (arith, run_length s k))

  -- or one
  pub running_one : (s' : ℕ) {held' : Lent} {r : Found} → s' ≡ s + 1 → s' ≤ end → Tried t s found held r held'
      → Trying t whole (run s' (end - s')) s' entry held' before r
  unfolding run
  running_one s' {held'} {r} e h a = running_all 1 s' e h (tried_first t s [] a (tried_none t r held'))

  -- until none is left
  pub running_end : end ≤ s → TriedAll t whole before entry found held
  unfolding run
  running_end h = let none : end - s ≡ 0 = omega arith in trying_end t s f (rw none)

-- ---- the walk that tries every window
every_from : (count k s : ℕ) → s + k ≡ count → walk_by (λ s. true) (λ s. s + 1) count (count - s) s ≡ run s k
unfolding run
every_from count zero s e = every_end count s (omega arith)
every_from count (suc k) s e = every_step count s (omega arith) ∙ ap (λ (l : List ℕ). s ∷ l) (every_from count k (s + 1) (omega arith))

every_run : (count : ℕ) → every_window count ≡ run 0 count ++ []
every_run count = every_start count ∙ every_from count count 0 (omega arith) ∙ sym (append-nil (run 0 count))

-- to have tried them all is to have the answer
pub every_tried : (t : Sought) {entry final : Lent} {before r : Found} → ((s : ℕ) → t.place s ≡ true → s < t.count) → before ≡ nothing
    → TriedAll t (run 0 t.count) before entry r final → Answer 0 t t.count entry (told r) final
every_tried t {entry} below e a =
    along_end t (every_window t.count) (0 + length (run 0 t.count)) t.count below (every_count t.count) (every_rises t.count)
    (λ s p. every_has t.count s (below s p))
    (along_all t (run 0 t.count) 0 (along_same (every_run t.count) (along_start t (every_window t.count) 0 entry e)) a)

-- ---- tests that agree on each window of a run find the same there
those_same : (p q : ℕ → Bool) (s k : ℕ) → ((j : ℕ) → j < k → p (s + j) ≡ q (s + j)) → those p (run s k) ≡ those q (run s k)
unfolding run those
those_same p q s zero h = refl
those_same p q s (suc k) h =
    let here : s + 0 ≡ s = omega arith in
    let first : p s ≡ q s = rw here at (h 0 (omega arith)) in
    rw (first, those_same p q (s + 1) k (λ j l. let next : s + suc j ≡ s + 1 + j = omega arith in rw next at (h (suc j) (omega arith))))

in_run : (s k : ℕ) {a : ℕ} → Memᴰ a (run s k) → (j : ℕ) × (j < k) × (a ≡ s + j)
unfolding run
in_run s zero m = absurd (Memᴰ.not-nil m)
in_run s (suc k) m =
    ⊎_elim (λ e. (0, omega arith, omega (arith, e)))
    (λ n. let at = in_run (s + 1) k n in (suc at.0, omega (arith, at.1), omega (arith, at.2)))
    (Memᴰ.cases_cons m)

pub run_same : (t t' : Sought) (s k : ℕ) {before r : Found} {entry final : Lent} → ((j : ℕ) → j < k → t.place (s + j) ≡ t'.place (s + j))
    → ((j : ℕ) → j < k → t.place (s + j) ≡ true → t.sum (s + j) ≡ t'.sum (s + j))
    → TriedAll t (run s k) before entry r final → TriedAll t' (run s k) before entry r final
run_same t t' s k places sums =
    let same = those_same t.place t'.place s k places in
    tried_same t t' (run s k) same
    (sums_same t.sum t'.sum (those t.place (run s k))
    (λ a m. let found = in_those t.place (run s k) m in
    let at = in_run s k found.0 in
    rw at.2 (sums at.0 at.1 (sym (ap t.place at.2) ∙ found.1)))
    ∙ ap (map t'.sum) same)

-- windows with no place among them are counted, all at once
those_none : (ws : List ℕ) → those (λ s. false) ws ≡ []
unfolding those
those_none [] = refl
those_none (s ∷ ws) = those_none ws

pub run_no_place : (t : Sought) (s k : ℕ) {before r : Found} {entry : Lent} → ((j : ℕ) → j < k → t.place (s + j) ≡ false) → r ≡ missed k before
    → TriedAll t (run s k) before entry r entry
run_no_place t s k h e = none_tried t (run s k) k (those_same t.place (λ s. false) s k h ∙ those_none (run s k)) (run_length s k) e
