-- What the walk knows before its first window, and what each of its steps needs of that. Assumes nothing.
use mathlib.Core.Path.{◌≡◌, refl, sym, ap, ap₂, ◌∙◌}
use mathlib.Core.Bool.{Bool, true, false, cond, ◌&&◌}
use mathlib.Core.List.{List, ◌∷◌}
use Prim.Native.Nat.{ℕ, ◌+◌, ◌-◌, ◌%◌, ◌≤◌, ◌<◌, min, max}
use native.Mathlib.Omega.{arith}
use lib.ListN.{length, get_or}
use lib.Dec.{leb, ltb}
use borrow.Author.Tests.{leb-true, le-leb, lt-ltb}
use Rattle.fit.specs.Reading.{lowest, highest, near}
use Rattle.fit.specs.Rule.{reading_at, all_fit, is_place_by}
use Rattle.fit.specs.Place.{fit_of, d_of, windows}
use Rattle.fit.specs.Refusal.{max_points, Accepted}
use Rattle.fit.specs.Spans.{span_fits, rule_in, spans_of}
use Rattle.fit.specs.Answer.{Sought, sought_by, Lent, told, Tried, Answer}
use Rattle.fit.specs.declared.answer.Found.{Found}
use Rattle.fit.proofs.Laws.Bools.{same_test, is_false}
use Rattle.fit.proofs.Laws.Rules.{fit_all, by_below}
use Rattle.fit.proofs.Laws.Refusals.{accepted_by_d}
use Rattle.fit.proofs.Laws.Compiled.{span_near, compiled_near, compiled_place}
use Rattle.fit.proofs.Laws.Alongs.{Along, along_tried, along_same, along_end}
use Rattle.reading.proofs.Laws.Among.{among_fits}
use Rattle.jumps.specs.Jumps.{next_jump, mismatch_jump, full_jump}
use Rattle.jumps.specs.Demand.{Readings}
use Rattle.jumps.proofs.Laws.OverSpans.{next_over_spans}
use Rattle.comparing.specs.Leading.{leading}
use Rattle.comparing.specs.Order.{compare_order}
use Rattle.comparing.proofs.Laws.Leadings.{leading_at}
use Rattle.comparing.proofs.Laws.Orders.{led_none, led_stop}
use Rattle.comparing.proofs.Laws.Seeing.{none_far}
use Rattle.tables.specs.Holding.{Holds}
use Rattle.comparing.specs.Writing.{HoldsOrder}
use Rattle.leaping.specs.Walk.{near_at, maximal_next, maximal_walk}
use Rattle.leaping.specs.Walking.{Walkable}
use Rattle.leaping.proofs.Laws.Steps.{compared_at, compared_in, compared_jump_is, step_is}
use Rattle.leaping.proofs.Laws.Walks.{left, forward, next_bound, walk_start, walk_step, walk_end, maximal_rises, maximal_has, far_no_place}

-- what it is handed, and what it makes of that: the full jump, the point that is compared first, the readings that are near it, and the jumps where
-- the window's is none of them
pub record Prepared (gamma : ℕ) (x y : List ℕ) (d : ℕ) (spans next order jumps : List ℕ) (full first least more : ℕ) (leaps : List ℕ) : Type 0 where
  pub ready : Walkable d gamma x y spans next order jumps
  pub readings : Readings y
  pub whole : full ≡ full_jump d x
  pub foremost : first ≡ get_or order 0 0
  pub lower : least ≡ max lowest (get_or x first 0 - d)
  pub upper : least + more ≡ min highest (get_or x first 0 + d)
  pub leaping : Holds (λ a. max (get_or next a 0) (get_or jumps first 0)) 256 256 leaps

-- a step of the walk, told by where the reading after the window stands: it goes to the walk's next window, forward, and by at most m + 1
pub record Onward (d : ℕ) (x y : List ℕ) (e e' : ℕ) : Type 0 where
  pub next : e' - length x ≡ maximal_next d x y (e - length x)
  pub forth : e < e'
  pub short : e' ≤ e + (length x + 1)

-- the point that is compared first is one of them
pub first_in : {gamma : ℕ} {x y : List ℕ} {d : ℕ} {spans next order jumps : List ℕ} → Walkable d gamma x y spans next order jumps → {first : ℕ} → first ≡ get_or order 0 0
    → first < length x
first_in {x = x} {d = d} {order = order} known {first} read = compared_in d x order 0 first known.orders known.ok.asked.some read

-- the walk begins where the reading at m is the one after the window
pub walk_begins : (d : ℕ) (x y : List ℕ) → maximal_walk d x y ≡ left d x y (length x - length x)
walk_begins d x y = let none : length x - length x ≡ 0 = omega arith in rw none (walk_start d x y)

-- the readings that are near a point, by the least of them and how many more there are
among_near : (d p least more a : ℕ) → least ≡ max lowest (p - d) → least + more ≡ min highest (p + d) → a ≤ 255 → span_fits least (least + more) a ≡ near d p a
among_near d p least more a l u h =
    let capped : leb a (min highest (p + d)) ≡ leb a (p + d) =
    same_test (leb a (min highest (p + d))) (leb a (p + d)) (λ t. le-leb a (p + d) (omega (arith, leb-true a (min highest (p + d)) t)))
    (λ t. le-leb a (min highest (p + d)) (omega (arith, leb-true a (p + d) t))) in
    ap₂ (λ (b c : Bool). b && c) (ap (λ (k : ℕ). leb k a) l) (ap (λ (k : ℕ). leb a k) u ∙ capped) ∙ span_near d p a

module _ {gamma : ℕ} {x y : List ℕ} {d : ℕ} {spans next order jumps : List ℕ} {full first least more : ℕ} {leaps : List ℕ}
    (p : Prepared gamma x y d spans next order jumps full first least more leaps) where
  ok : Accepted d gamma x y
  ok = p.ready.ok

  -- d is the smaller of itself and gamma
  itself : d ≡ d_of d gamma
  itself = omega (arith, p.ready.small)

  own : spans ≡ spans_of (d_of d gamma) x
  own = p.ready.made ∙ ap (λ (k : ℕ). spans_of k x) itself

  -- ---- the point that is compared first
  pub first_inside : first < length x
  first_inside = first_in p.ready p.foremost

  -- one comparison tells whether it is near
  pub first_near : (s a : ℕ) (r : Bool) → a ≡ reading_at y s first → (r ≡ leb ((a + 256 - least) % 256) more) × (a ≤ highest) → r ≡ near_at d x y s first
  first_near s a r e told =
      told.0 ∙ among_fits least more a (omega (arith, p.upper)) told.1 ∙ rw (← e) (among_near d (get_or x first 0) least more a p.lower p.upper told.1)

  -- where it is not, no point is near before one that is not
  pub none_leading : (s : ℕ) → near_at d x y s first ≡ false → 0 ≡ leading (near_at d x y s) (compare_order d x)
  none_leading s e =
      led_stop d x (near_at d x y s) (led_none d x (near_at d x y s))
      (rw (compared_at d x order 0 first p.ready.orders ok.asked.some p.foremost) at e)

  -- ---- a window with a point that is not near is no place; and where all are, its readings suit
  pub far_false : (s j : ℕ) → j ≡ leading (near_at d x y s) (compare_order d x) → j < length x → is_place_by (rule_in spans) (length x) gamma y s ≡ false
  far_false s j e l =
      is_false _ (λ t. far_no_place d gamma x y ok p.readings s (rw (← itself, ← e) l) (compiled_place d gamma x spans own ok.asked.few y s t))

  pub all_near : (s j : ℕ) → s + length x ≤ length y → j ≡ leading (near_at d x y s) (compare_order d x) → length x ≤ j
      → all_fit (rule_in spans).fit y s (length x) ≡ true
  all_near s j inside e l =
      fit_all (rule_in spans).fit y s (length x) (λ i h.
      compiled_near d gamma x spans own ok.asked.few i (reading_at y s i) h
      ∙ rw (← itself) ((none_far d x y s inside (λ k b. leading_at (near_at d x y s) (compare_order d x) k (omega (arith, e)))).each i h))

  pub table_inside : (s j : ℕ) → j ≡ leading (near_at d x y s) (compare_order d x) → (length x ≤ max_points) × (j < length x → get_or order j 0 < max_points)
  table_inside s j e =
      (ok.asked.few, λ l. omega (arith, ok.asked.few, compared_in d x order j (get_or order j 0) p.ready.orders l refl))

  nexts_are : Holds (next_jump (fit_of d x) (length x)) 256 256 next
  nexts_are = record {
    long = p.ready.nexts.long;
    at = λ a l. p.ready.nexts.at a l ∙ rw itself (next_over_spans d gamma x spans own ok.asked a);
    beyond = p.ready.nexts.beyond;
  }

  -- ---- where the code goes on is where the walk does; e is where the reading after the window stands
  goes_on : (e j jump longer : ℕ) → length x ≤ e → e < length y → j ≡ leading (near_at d x y (e - length x)) (compare_order d x)
      → jump ≡ cond (ltb j (length x)) (get_or jumps (get_or order j 0) 0) full → longer ≡ max (get_or next (get_or y e 0) 0) jump
      → e + longer - length x ≡ maximal_next d x y (e - length x)
  goes_on e j jump longer h l q f g =
      let back : e - length x + length x ≡ e = omega arith in
      let onward : e + longer - length x ≡ e - length x + longer = omega arith in
      let step = step_is d x y (e - length x) next jump nexts_are (omega (arith, p.readings (e - length x + length x)))
      (f ∙ compared_jump_is d x y (e - length x) order jumps full j p.ready.orders p.ready.mismatches p.whole q) in
      onward ∙ ap (λ (k : ℕ). e - length x + k) g ∙ rw (back, lt-ltb e (length y) l) at step

  -- forward, and not far
  onward : (e e' : ℕ) → length x ≤ e → e ≤ length y → e' - length x ≡ maximal_next d x y (e - length x) → Onward d x y e e'
  onward e e' h l q = record {
    next = q;
    forth = omega (arith, q, forward d x y (e - length x) (omega arith));
    short = omega (arith, q, next_bound d x y ok.asked.some (e - length x));
  }

  pub near_goes : (e j jump v longer : ℕ) → length x ≤ e → e < length y → j ≡ leading (near_at d x y (e - length x)) (compare_order d x)
      → jump ≡ cond (ltb j (length x)) (get_or jumps (get_or order j 0) 0) full → v ≡ get_or next (get_or y e 0) 0 → longer ≡ max v jump
      → Onward d x y e (e + longer)
  near_goes e j jump v longer h l q f n g = onward e (e + longer) h (omega arith) (goes_on e j jump longer h l q f (rw n at g))

  pub far_goes : (e leap : ℕ) → length x ≤ e → e < length y → near_at d x y (e - length x) first ≡ false → leap ≡ get_or leaps (get_or y e 0) 0
      → Onward d x y e (e + leap)
  far_goes e leap h l f g =
      onward e (e + leap) h (omega arith)
      (goes_on e 0 (get_or jumps first 0) leap h l (none_leading (e - length x) f)
      (rw (lt-ltb 0 (length x) ok.asked.some, ← p.foremost) refl)
      (g ∙ p.leaping.at (get_or y e 0) (omega (arith, p.readings e))))

  pub along_step : (t : Sought) (s s' : ℕ) {walk : List ℕ} {entry held held' : Lent} {r r' : Found} → s + length x ≤ length y → s' ≡ maximal_next d x y s
      → Along t walk (left d x y s) s entry held r → Tried t s r held r' held' → Along t walk (left d x y s') s' entry held' r'
  along_step t s s' h e f n =
      along_tried t s s s' (along_same (walk_step d x y s (omega arith) ∙ ap (λ (k : ℕ). s ∷ left d x y k) (sym e)) f) n
      (omega (arith, e, forward d x y s (omega arith)))

  pub walked : (s : ℕ) {entry held : Lent} {r : Found} → windows (length x) (length y) ≤ s
      → Along (sought_by (rule_in spans) (length x) gamma y) (maximal_walk d x y) (left d x y s) s entry held r
      → Answer 0 (sought_by (rule_in spans) (length x) gamma y) (length (maximal_walk d x y)) entry (told r) held
  walked s h f =
      along_end (sought_by (rule_in spans) (length x) gamma y) (maximal_walk d x y) s (length (maximal_walk d x y))
      (λ t e. by_below (rule_in spans) (length x) gamma y t e) refl (maximal_rises d x y)
      (λ t e. rw itself (maximal_has d gamma x y ok p.readings t (compiled_place d gamma x spans own ok.asked.few y t e)))
      (along_same (walk_end d x y s h) f)

  -- the last window, after which there is no reading: the walk ends behind it
  pub walked_last : (s : ℕ) {entry held held' : Lent} {r r' : Found} → s + length x ≡ length y
      → Along (sought_by (rule_in spans) (length x) gamma y) (maximal_walk d x y) (left d x y s) s entry held r
      → Tried (sought_by (rule_in spans) (length x) gamma y) s r held r' held'
      → Answer 0 (sought_by (rule_in spans) (length x) gamma y) (length (maximal_walk d x y)) entry (told r') held'
  walked_last s h f n =
      walked (maximal_next d x y s) (omega (arith, forward d x y s (omega arith))) (along_step _ s (maximal_next d x y s) (omega arith) refl f n)

-- ---- a search that is accepted hands on what the walk asks for
pub walkable : (delta gamma : ℕ) (x y : List ℕ) (d : ℕ) (spans next order jumps : List ℕ) → Accepted delta gamma x y → d ≡ d_of delta gamma
    → spans ≡ spans_of (d_of delta gamma) x → Holds (next_jump (rule_in spans).fit (length x)) 256 256 next → HoldsOrder d x order
    → Holds (mismatch_jump d x) (length x) max_points jumps → Walkable d gamma x y spans next order jumps
walkable delta gamma x y d spans next order jumps ok e made nexts orders mismatches = record {
  ok = rw e (accepted_by_d delta gamma x y ok);
  small = omega (arith, e);
  made = made ∙ ap (λ (k : ℕ). spans_of k x) (sym e);
  nexts = nexts;
  orders = orders;
  mismatches = mismatches;
}
