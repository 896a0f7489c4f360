-- Laws of going along last's walk by the table of its jumps, for all that go along it. Assumes nothing.
use mathlib.Core.Path.{◌≡◌, refl, sym, ap, ◌∙◌}
use mathlib.Core.Logic.{⊎_elim}
use mathlib.Core.List.{List, [], ◌∷◌}
use Prim.Native.Nat.{ℕ, zero, suc, ◌+◌, ◌-◌, ◌≤◌, ◌<◌}
use native.Mathlib.Omega.{arith}
use lib.ListN.{length, get_or}
use lib.Dec.{eqb}
use borrow.Author.Tests.{lt-ltb, le-ltb, eq-eqb, ne_eqb, eqb-true, eqb-false}
use Rattle.fit.specs.Rule.{is_place_by}
use Rattle.fit.specs.Listing.{those}
use Rattle.fit.specs.Spans.{rule_in}
use Rattle.fit.specs.Answer.{sought_by, all}
use Rattle.fit.proofs.Laws.Bools.{either, le_or_lt}
use Rattle.jumps.specs.Jumps.{last_jump, seen_jump}
use Rattle.jumps.proofs.Laws.Sizes.{seen_jump_ge}
use Rattle.last.specs.Walk.{walk_in, Walkable, seek_by, seek}
use Rattle.last.proofs.Laws.Walks.{left, last_start, last_end, last_finds, end_try, end_pass}

-- ---- where the jumps of a table lead
module _ (table y : List ℕ) where
  abbrev entry : ℕ → ℕ
  entry q = get_or table (get_or y q 0) 0

  by_end : (k q : ℕ) → length y ≤ q → seek_by table y k q ≡ q
  unfolding seek_by
  by_end zero q h = refl
  by_end (suc k) q h = rw (le-ltb q (length y) h)

  by_here : (k q : ℕ) → entry q ≡ 0 → seek_by table y k q ≡ q
  unfolding seek_by
  by_here zero q e = refl
  by_here (suc k) q e =
      ⊎_elim (λ (l : length y ≤ q). rw (le-ltb q (length y) l)) (λ (l : q < length y). rw (lt-ltb q (length y) l, eq-eqb (entry q) 0 e)) (le_or_lt (length y) q)

  by_on : (k q : ℕ) → q < length y → (entry q ≡ 0 → ⊥) → seek_by table y (suc k) q ≡ seek_by table y k (q + entry q)
  unfolding seek_by
  by_on k q h n = rw (lt-ltb q (length y) h, ne_eqb (entry q) 0 n)

  -- any two numbers of steps that are enough lead to the same
  same_steps : (k k' q : ℕ) → length y ≤ k + q → length y ≤ k' + q → seek_by table y k q ≡ seek_by table y k' q
  same_steps zero k' q h h' = by_end zero q (omega arith) ∙ sym (by_end k' q (omega arith))
  same_steps (suc k) zero q h h' = by_end (suc k) q (omega arith) ∙ sym (by_end zero q (omega arith))
  same_steps (suc k) (suc k') q h h' =
      ⊎_elim (λ (l : length y ≤ q). by_end (suc k) q l ∙ sym (by_end (suc k') q l))
      (λ (l : q < length y).
      ⊎_elim (λ t. let e = eqb-true (entry q) 0 t in by_here (suc k) q e ∙ sym (by_here (suc k') q e))
      (λ t. let n = eqb-false (entry q) 0 t in
      by_on k q l n ∙ same_steps k k' (q + entry q) (omega (arith, n)) (omega (arith, n)) ∙ sym (by_on k' q l n))
      (either (eqb (entry q) 0)))
      (le_or_lt (length y) q)

  pub seek_end : (q : ℕ) → length y ≤ q → q ≡ seek table y q
  unfolding seek
  seek_end q h = sym (by_end (length y - q) q h)

  pub seek_here : (q : ℕ) → entry q ≡ 0 → q ≡ seek table y q
  unfolding seek
  seek_here q e = sym (by_here (length y - q) q e)

  pub seek_on : (q j : ℕ) → q < length y → j ≡ entry q → (j ≡ 0 → ⊥) → seek table y q ≡ seek table y (q + j)
  unfolding seek
  seek_on q j h e n =
      let k : ℕ = length y - q - 1 in
      let f : length y - q ≡ suc k = omega arith in
      let on = by_on k q h (λ z. n (e ∙ z)) in
      rw (f, e) (on ∙ same_steps k (length y - (q + entry q)) (q + entry q) (omega (arith, n, e)) (omega arith))

-- ---- the walk of m points compiled to spans, and what is left of it at the window whose last reading stands at q
abbrev pub left_in : List ℕ → ℕ → List ℕ → ℕ → List ℕ
left_in spans m y q = left (rule_in spans).fit m y (q - (m - 1))

-- the walk stands there: it tries that window, or it has ended
pub record Stands (spans table seen : List ℕ) (m gamma : ℕ) (y : List ℕ) (q : ℕ) : Type 0 where
  pub walkable : Walkable spans table seen m gamma y
  pub readings : (i : ℕ) → get_or y i 0 < 256
  pub from : m ≤ q + 1
  pub tries : q < length y → last_jump (rule_in spans).fit m (get_or y q 0) ≡ 0

module _ (spans table seen : List ℕ) (m gamma : ℕ) (y : List ℕ) (w : Walkable spans table seen m gamma y) where
  -- the places among its windows are all that is sought
  pub walk_finds : those (is_place_by (rule_in spans) m gamma y) (walk_in spans m y) ≡ all (sought_by (rule_in spans) m gamma y)
  walk_finds = last_finds (rule_in spans) m gamma y w.ready.some

  module _ (readings : (i : ℕ) → get_or y i 0 < 256) where
    -- what is told of the position to which the jumps lead
    record Leads (q p : ℕ) : Type 0 where
      forth : q ≤ p
      same : left_in spans m y q ≡ left_in spans m y p
      tries : p < length y → last_jump (rule_in spans).fit m (get_or y p 0) ≡ 0

    stays : (q p : ℕ) → p ≡ q → (q < length y → last_jump (rule_in spans).fit m (get_or y q 0) ≡ 0) → Leads q p
    stays q p e f = rw e (record { forth = omega arith; same = refl; tries = f })

    leads : (k q : ℕ) → length y ≤ k + q → m ≤ q + 1 → Leads q (seek_by table y k q)
    leads zero q h from = stays q _ (by_end table y zero q (omega arith)) (λ l. absurd (omega arith))
    leads (suc k) q h from =
        ⊎_elim (λ (l : length y ≤ q). stays q _ (by_end table y (suc k) q l) (λ b. absurd (omega arith)))
        (λ (l : q < length y).
        let jump : entry table y q ≡ last_jump (rule_in spans).fit m (get_or y q 0) = w.jumps.at (get_or y q 0) (readings q) in
        ⊎_elim (λ t. let e = eqb-true (entry table y q) 0 t in stays q _ (by_here table y (suc k) q e) (λ b. sym jump ∙ e))
        (λ t. let n = eqb-false (entry table y q) 0 t in
        let on = leads k (q + entry table y q) (omega (arith, n)) (omega arith) in
        rw (by_on table y k q l n)
        (record {
          forth = omega (arith, on.forth);
          same = end_pass (rule_in spans).fit m y w.ready.some q (entry table y q) from l jump n ∙ on.same;
          tries = on.tries;
        }))
        (either (eqb (entry table y q) 0)))
        (le_or_lt (length y) q)

    led : (q p : ℕ) → p ≡ seek table y q → m ≤ q + 1 → Leads q p
    unfolding seek
    led q p e from = rw e (leads (length y - q) q (omega arith) from)

    stands : (q p : ℕ) → m ≤ q + 1 → Leads q p → Stands spans table seen m gamma y p
    stands q p from l = record { walkable = w; readings = readings; from = omega (arith, l.forth); tries = l.tries }

    -- before the first window: the walk is what is left where the jumps lead from the last reading of the window at 0
    pub stands_first : (p : ℕ) → p ≡ seek table y (m - 1) → Stands spans table seen m gamma y p × (walk_in spans m y ≡ left_in spans m y p)
    stands_first p e =
        let some = w.ready.some in
        let l = led (m - 1) p e (omega arith) in
        let none : m - 1 - (m - 1) ≡ 0 = omega arith in (
          stands (m - 1) p (omega arith) l,
          last_start (rule_in spans).fit m y some ∙ ap (left (rule_in spans).fit m y) (sym none) ∙ l.same,
        )

-- after the window that it tries, it stands where the jumps lead from where that window's last reading lands
module _ (spans table seen : List ℕ) (m gamma : ℕ) (y : List ℕ) (q : ℕ) (at : Stands spans table seen m gamma y q) where
  module _ (h : q < length y) (l p : ℕ) (lands : l ≡ q + get_or seen (get_or y q 0) 0) (e : p ≡ seek table y l) where
    landing : l ≡ q + seen_jump (rule_in spans).fit m (get_or y q 0)
    landing = lands ∙ ap (λ (k : ℕ). q + k) (at.walkable.after.at (get_or y q 0) (at.readings q))

    next : Leads spans table seen m gamma y at.walkable at.readings (q + seen_jump (rule_in spans).fit m (get_or y q 0)) p
    next =
        led spans table seen m gamma y at.walkable at.readings (q + seen_jump (rule_in spans).fit m (get_or y q 0)) p
        (e ∙ ap (seek table y) landing) (omega (arith, at.from))

    pub stands_next : Stands spans table seen m gamma y p
    stands_next =
        stands spans table seen m gamma y at.walkable at.readings (q + seen_jump (rule_in spans).fit m (get_or y q 0)) p (omega (arith, at.from)) next

    pub stands_forth : q < p
    stands_forth = omega (arith, next.forth, seen_jump_ge (rule_in spans).fit m (get_or y q 0) at.walkable.ready.some)

    pub stands_try : left_in spans m y q ≡ (q - (m - 1)) ∷ left_in spans m y p
    stands_try =
        end_try (rule_in spans).fit m y at.walkable.ready.some q at.from h (at.tries h) ∙ ap (λ (l : List ℕ). (q - (m - 1)) ∷ l) next.same

  pub stands_end : length y ≤ q → left_in spans m y q ≡ []
  stands_end h = last_end (rule_in spans).fit m y at.walkable.ready.some (q - (m - 1)) (omega (arith, at.walkable.ready.some))
