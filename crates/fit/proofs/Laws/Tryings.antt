-- Laws of several windows tried one after the other. Nobody else opens these definitions. Assumes nothing.
use mathlib.Core.Path.{◌≡◌, refl, sym, ap, ◌∙◌}
use mathlib.Core.List.{List, [], ◌∷◌, ◌++◌}
use Prim.Native.Nat.{ℕ, suc, ◌+◌, ◌≤◌, ◌<◌}
use native.Mathlib.Nat.{le_refl}
use native.Mathlib.Omega.{arith}
use lib.ListN.{length}
use Rattle.fit.specs.Answer.{Sought, Lent, lent, Tried}
use Rattle.fit.specs.declared.answer.Found.{Found}
use Rattle.fit.proofs.Laws.Answers.{tried_one, order_one, both_lists}
use Rattle.fit.proofs.Laws.Alongs.{Along, along_tried, along_on, listed_long}
use Rattle.fit.specs.Trying.{counts_after, lists_after, TriedAll}

pub tried_none : (t : Sought) (r : Found) (l : Lent) → TriedAll t [] r l r l
unfolding counts_after lists_after
tried_none t r l = record { counts = refl; lists = refl }

-- the first of them, and then the others
pub tried_first : (t : Sought) (s : ℕ) (ws : List ℕ) {before r₁ r : Found} {entry l₁ final : Lent}
    → Tried t s before entry r₁ l₁ → TriedAll t ws r₁ l₁ r final → TriedAll t (s ∷ ws) before entry r final
unfolding counts_after lists_after
tried_first t s ws a b = record { counts = rw (← a.counts) b.counts; lists = rw (← a.counts, ← a.lists) b.lists }

-- no second result of several windows
pub no_second_tried : (t : Sought) (ws : List ℕ) (before : Found) (entry : Lent) (r r' : Found) (l l' v v' : List ℕ)
    → TriedAll t ws before entry r (lent l v) → TriedAll t ws before entry r' (lent l' v') → (r ≡ r') × (l ≡ l') × (v ≡ v')
no_second_tried t ws before entry r r' l l' v v' a b =
    let lists = both_lists (a.lists ∙ sym b.lists) in
    (a.counts ∙ sym b.counts, lists.0, lists.1)

-- a walk whose next windows are these
pub along_all : (t : Sought) (ws : List ℕ) (bound : ℕ) {walk rest : List ℕ} {entry held held' : Lent} {before r : Found}
    → Along t walk (ws ++ rest) bound entry held before → TriedAll t ws before held r held' → Along t walk rest (bound + length ws) entry held' r
unfolding counts_after lists_after
along_all t [] bound f a = rw (a.counts, a.lists) (along_on refl (omega arith) f)
along_all t (s ∷ ws) bound f a =
    along_on refl (omega arith)
    (along_all t ws (suc bound) (along_tried t s bound (suc bound) f (record { counts = refl; lists = refl }) (le_refl (suc bound)))
    (record { counts = a.counts; lists = a.lists }))

-- ---- the windows `whole` are being tried, `left` are still to be, and at most `bound` were tried in all
pub record Trying (t : Sought) (whole left : List ℕ) (bound : ℕ) (entry held : Lent) (before found : Found) : Type 0 where
  pub order : found.total ≤ found.tried
  pub room : found.tried ≤ bound
  pub long : length held.list ≡ length entry.list
  pub sums_long : length held.sums ≡ length entry.sums
  pub rest : (r : Found) (final : Lent) → TriedAll t left found held r final → TriedAll t whole before entry r final

pub trying_start : (t : Sought) (whole : List ℕ) (bound : ℕ) (entry : Lent) (before : Found) → before.total ≤ before.tried → before.tried ≤ bound
    → Trying t whole whole bound entry entry before before
trying_start t whole bound entry before o h = record { order = o; room = h; long = refl; sums_long = refl; rest = λ r final a. a }

pub trying_next : (t : Sought) (s bound bound' : ℕ) {whole left left' : List ℕ} {entry held held' : Lent} {before found found' : Found}
    → Trying t whole left bound entry held before found → left ≡ s ∷ left' → Tried t s found held found' held' → bound < bound'
    → Trying t whole left' bound' entry held' before found'
trying_next t s bound bound' {left' = left'} {held = held} {found = found} f e a h = record {
  order = rw a.counts (order_one (t.place s) (t.sum s) found f.order);
  room = omega (arith, tried_one (t.place s) (t.sum s) found, ap (λ (r : Found). r.tried) a.counts, f.room);
  long = ap (λ (l : Lent). length l.list) a.lists ∙ (listed_long (t.place s) (t.sum s) s found.total held).0 ∙ f.long;
  sums_long = ap (λ (l : Lent). length l.sums) a.lists ∙ (listed_long (t.place s) (t.sum s) s found.total held).1 ∙ f.sums_long;
  rest = λ r final b. f.rest r final (rw e (tried_first t s left' a b));
}

pub trying_pass : (t : Sought) (bound bound' : ℕ) {whole left left' : List ℕ} {entry held : Lent} {before found : Found}
    → Trying t whole left bound entry held before found → left ≡ left' → bound ≤ bound' → Trying t whole left' bound' entry held before found
trying_pass t bound bound' f e h = record {
  order = f.order;
  room = omega (arith, f.room);
  long = f.long;
  sums_long = f.sums_long;
  rest = λ r final b. f.rest r final (rw e b);
}

-- several of them at once
pub trying_all : (t : Sought) (ws : List ℕ) (bound bound' : ℕ) {whole rest : List ℕ} {entry held held' : Lent} {before found r : Found}
    → Trying t whole (ws ++ rest) bound entry held before found → TriedAll t ws found held r held' → bound + length ws ≤ bound'
    → Trying t whole rest bound' entry held' before r
unfolding counts_after lists_after
trying_all t [] bound bound' f a h = rw (a.counts, a.lists) (trying_pass t bound bound' f refl (omega arith))
trying_all t (s ∷ ws) bound bound' f a h =
    trying_all t ws (suc bound) bound' (trying_next t s bound (suc bound) f refl (record { counts = refl; lists = refl }) (le_refl (suc bound)))
    (record { counts = a.counts; lists = a.lists }) (omega arith)

pub trying_end : (t : Sought) (bound : ℕ) {whole left : List ℕ} {entry held : Lent} {before found : Found}
    → Trying t whole left bound entry held before found → left ≡ [] → TriedAll t whole before entry found held
trying_end t bound {held = held} {found = found} f e = f.rest found held (rw e (tried_none t found held))
