-- Laws of a list told entry by entry, and of a loop that rewrites it from the front. Assumes nothing.
use mathlib.Core.Path.{◌≡◌, sym, ◌∙◌}
use mathlib.Core.Logic.{⊎_elim}
use mathlib.Core.List.{List}
use Prim.Native.Nat.{ℕ, ◌+◌, ◌≤◌, ◌<◌}
use native.Mathlib.Nat.{not-suc-le-zero, eq-or-lt_of_le}
use native.Mathlib.Omega.{arith}
use lib.ListN.{length, get_or, set, replicate, length-set, length-replicate, get_or-replicate}
use lib.Seq.{get_or-set_same, get_or-set_other}
use Rattle.fit.specs.Listing.{Entries}
use Rattle.fit.proofs.Laws.Bools.{le_or_lt}
use Rattle.fit.proofs.Laws.Uniques.{same_lists}

-- all the same
pub entries_same : (f : ℕ → ℕ) (n v : ℕ) → ((j : ℕ) → j < n → v ≡ f j) → Entries f n (replicate n v)
entries_same f n v h = record { long = length-replicate {A = ℕ} n v; each = λ j l. get_or-replicate {A = ℕ} n j v 0 l ∙ h j l }

-- told otherwise
pub entries_as : (f g : ℕ → ℕ) (n : ℕ) {l : List ℕ} → ((j : ℕ) → j < n → f j ≡ g j) → Entries f n l → Entries g n l
entries_as f g n h e = record { long = e.long; each = λ j b. e.each j b ∙ h j b }

-- no second list has the same entries
pub no_second_entries : (f : ℕ → ℕ) (n : ℕ) (l l' : List ℕ) → Entries f n l → Entries f n l' → l ≡ l'
no_second_entries f n l l' e e' =
    same_lists l l' (e.long ∙ sym e'.long) (λ j h. e.each j (omega (arith, e.long)) ∙ sym (e'.each j (omega (arith, e.long))))

-- ---- a loop that rewrites a list of f into one of g: the first j entries are rewritten
pub record Rewritten (f g : ℕ → ℕ) (n : ℕ) (l : List ℕ) (j : ℕ) : Type 0 where
  pub long : length l ≡ n
  pub done : (k : ℕ) → k < j → k < n → get_or l k 0 ≡ g k
  pub left : (k : ℕ) → j ≤ k → k < n → get_or l k 0 ≡ f k

module _ (f g : ℕ → ℕ) (n : ℕ) where
  -- from any entry on, if those before it stay what they are
  pub rewritten_from : (j : ℕ) {l : List ℕ} → ((k : ℕ) → k < j → k < n → f k ≡ g k) → Entries f n l → Rewritten f g n l j
  rewritten_from j same e = record { long = e.long; done = λ k h b. e.each k b ∙ same k h b; left = λ k h b. e.each k b }

  pub rewritten_none : {l : List ℕ} → Entries f n l → Rewritten f g n l 0
  rewritten_none e = rewritten_from 0 (λ k h b. absurd (not-suc-le-zero h)) e

  pub rewritten_next : (j v : ℕ) {l : List ℕ} → j < n → Rewritten f g n l j → v ≡ g j → Rewritten f g n (set l j v) (j + 1)
  rewritten_next j v {l} h e q = record {
    long = length-set l j v ∙ e.long;
    done = λ k b c.
        ⊎_elim (λ (z : k ≡ j). rw z (get_or-set_same l j v 0 (omega (arith, e.long)) ∙ q)) (λ (z : k < j). get_or-set_other l j k v 0 (λ x. omega arith) ∙ e.done k z c)
        (eq-or-lt_of_le (omega arith));
    left = λ k b c. get_or-set_other l j k v 0 (λ x. omega arith) ∙ e.left k (omega arith) c;
  }

  -- up to any entry, if those from it on stay what they are
  pub rewritten_to : (j : ℕ) {l : List ℕ} → ((k : ℕ) → j ≤ k → k < n → f k ≡ g k) → Rewritten f g n l j → Entries g n l
  rewritten_to j same e = record {
    long = e.long;
    each = λ k b. ⊎_elim (λ (h : j ≤ k). e.left k h b ∙ same k h b) (λ (h : k < j). e.done k h b) (le_or_lt j k);
  }

  pub rewritten_all : (j : ℕ) {l : List ℕ} → n ≤ j → Rewritten f g n l j → Entries g n l
  rewritten_all j h e = rewritten_to j (λ k l b. absurd (omega arith)) e
