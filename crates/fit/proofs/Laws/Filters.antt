-- Laws of a filter: of the windows that are to be tried it keeps some, with all places among them; only these are looked at, and all are
-- counted. Assumes nothing.
use mathlib.Core.Path.{◌≡◌, refl, sym, ap, ◌∙◌}
use mathlib.Core.Bool.{Bool, true, false, cond}
use mathlib.Core.List.{List, [], ◌∷◌, map}
use Prim.Native.Nat.{ℕ, suc, ◌+◌}
use native.Mathlib.Omega.{arith}
use lib.ListN.{length, set}
use Rattle.fit.specs.Listing.{those}
use Rattle.fit.specs.Sums.{lowered}
use Rattle.fit.specs.Answer.{Sought, Lent, noted, listed}
use Rattle.fit.specs.Trying.{counts_after, lists_after, TriedAll, missed, counted}
use Rattle.fit.specs.declared.answer.Found.{Found}
use Rattle.fit.proofs.Laws.Bools.{not_both, is_false}
use Rattle.fit.proofs.Laws.Tryings.{tried_none}

-- ---- what windows leave is told by the places among them, by their sums, and by how many windows they are
abbrev sums_in : Sought → List ℕ → List ℕ
sums_in t ws = map t.sum (those t.place ws)

-- the least after more places, of which only the sums tell
unfoldable least_after : ℕ → ℕ → List ℕ → ℕ
least_after count least [] = least
least_after count least (v ∷ vs) = least_after (count + 1) (lowered count least v) vs

abbrev raised : Found → List ℕ → ℕ → Found
raised r vs windows = record { total = r.total + length vs; tried = r.tried + windows; least = least_after r.total r.least vs }

same_counts : {total total' tried tried' least least' : ℕ} → total ≡ total' → tried ≡ tried' → least ≡ least'
    → ◌≡◌ {A = Found} (record { total = total; tried = tried; least = least }) (record { total = total'; tried = tried'; least = least' })
same_counts e f g = λ i. record { total = e i; tried = f i; least = g i }

one_raised : (b : Bool) (f : ℕ → ℕ) (s : ℕ) (ps : List ℕ) (k : ℕ) (r : Found)
    → raised (noted b (f s) r) (map f ps) k ≡ raised r (map f (cond b (s ∷ ps) ps)) (suc k)
unfolding noted least_after
one_raised true f s ps k r = same_counts (omega arith) (omega arith) refl
one_raised false f s ps k r = same_counts refl (omega arith) refl

counts_are : (t : Sought) (ws : List ℕ) (r : Found) → counts_after t ws r ≡ raised r (sums_in t ws) (length ws)
unfolding counts_after those least_after
counts_are t [] r = same_counts (omega arith) (omega arith) refl
counts_are t (s ∷ ws) r =
    counts_are t ws (noted (t.place s) (t.sum s) r) ∙ one_raised (t.place s) t.sum s (those t.place ws) (length ws) r

-- numbers written from an entry on
unfoldable written : List ℕ → ℕ → List ℕ → List ℕ
written [] at l = l
written (v ∷ vs) at l = written vs (at + 1) (set l at v)

abbrev laid_at : List ℕ → List ℕ → ℕ → Lent → Lent
laid_at ps vs at l = record { list = written ps at l.list; sums = written vs at l.sums }

one_laid : (b : Bool) (f : ℕ → ℕ) (s : ℕ) (ps : List ℕ) (r : Found) (l : Lent)
    → laid_at ps (map f ps) (noted b (f s) r).total (listed b (f s) s r.total l) ≡ laid_at (cond b (s ∷ ps) ps) (map f (cond b (s ∷ ps) ps)) r.total l
unfolding noted listed written
one_laid true f s ps r l = refl
one_laid false f s ps r l = refl

lists_are : (t : Sought) (ws : List ℕ) (r : Found) (l : Lent) → lists_after t ws r l ≡ laid_at (those t.place ws) (sums_in t ws) r.total l
unfolding lists_after those written
lists_are t [] r l = refl
lists_are t (s ∷ ws) r l =
    lists_are t ws (noted (t.place s) (t.sum s) r) (listed (t.place s) (t.sum s) s r.total l)
    ∙ one_laid (t.place s) t.sum s (those t.place ws) r l

-- ---- the law of a filter: where `some`, by one test, have the places and sums that ws have by the other, to try `some` is to try ws, but for the
-- count of windows
pub filtered : (t t' : Sought) (some ws : List ℕ) (n : ℕ) {before r : Found} {entry final : Lent}
    → those t.place some ≡ those t'.place ws → sums_in t some ≡ sums_in t' ws → n ≡ before.tried + length ws → TriedAll t some before entry r final
    → TriedAll t' ws before entry (counted r n) final
filtered t t' some ws n {before} {r} {entry} same sums e a =
    let of_some = a.counts ∙ counts_are t some before in
    record {
      counts =
          (λ i. counted (of_some i) (e i)) ∙ ap (λ (vs : List ℕ). raised before vs (length ws)) sums ∙ sym (counts_are t' ws before);
      lists = a.lists ∙ lists_are t some before entry
          ∙ (λ i. laid_at (same i) (sums i) before.total entry) ∙ sym (lists_are t' ws before entry);
    }

-- another test that finds the same places among the windows, with the same sums, leaves the same
pub tried_same : (t t' : Sought) (ws : List ℕ) {before r : Found} {entry final : Lent} → those t.place ws ≡ those t'.place ws
    → sums_in t ws ≡ sums_in t' ws → TriedAll t ws before entry r final → TriedAll t' ws before entry r final
tried_same t t' ws {before} {r} same sums a =
    filtered t t' ws ws r.tried same sums (ap (λ (u : Found). u.tried) (a.counts ∙ counts_are t ws before)) a

-- ---- a filter by a test that every place passes: only the windows that pass it are looked at, and all are counted
module _ (t : Sought) (keeps : ℕ → Bool) (safe : (s : ℕ) → t.place s ≡ true → keeps s ≡ true) where
  those_kept : (ws : List ℕ) → those t.place (those keeps ws) ≡ those t.place ws
  unfolding those
  those_kept [] = refl
  those_kept (s ∷ ws) = by_test (keeps s) refl (those_kept ws)
    where
      by_test : (b : Bool) → keeps s ≡ b → those t.place (those keeps ws) ≡ those t.place ws
          → those t.place (cond b (s ∷ those keeps ws) (those keeps ws)) ≡ cond (t.place s) (s ∷ those t.place ws) (those t.place ws)
      by_test true e same = rw same
      by_test false e same = rw (is_false (t.place s) (λ p. not_both (safe s p) e), same)

  pub kept_tried : (ws : List ℕ) (n : ℕ) {before r r' : Found} {entry final : Lent} → n ≡ before.tried + length ws → r' ≡ counted r n
      → TriedAll t (those keeps ws) before entry r final → TriedAll t ws before entry r' final
  kept_tried ws n e f a =
      let tried = filtered t t (those keeps ws) ws n (those_kept ws) (ap (map t.sum) (those_kept ws)) e a in
      record { counts = f ∙ tried.counts; lists = tried.lists }

  -- where it keeps none, they are counted all at once
  pub kept_none : (ws : List ℕ) (k : ℕ) {before r : Found} {entry : Lent} → those keeps ws ≡ [] → length ws ≡ k → r ≡ missed k before
      → TriedAll t ws before entry r entry
  kept_none ws k {before} {entry = entry} none e f =
      kept_tried ws (before.tried + k) {r = before} (ap (λ (n : ℕ). before.tried + n) (sym e)) f (rw none (tried_none t before entry))

-- the places themselves are such a filter
pub none_tried : (t : Sought) (ws : List ℕ) (k : ℕ) {before r : Found} {entry : Lent} → those t.place ws ≡ [] → length ws ≡ k → r ≡ missed k before
    → TriedAll t ws before entry r entry
none_tried t ws k none e f = kept_none t t.place (λ s p. p) ws k none e f
