-- A search that goes along a walk: what it has done, and how it ends. Assumes nothing.
use mathlib.Core.Path.{◌≡◌, refl, sym, ap, ◌∙◌}
use mathlib.Core.Bool.{Bool, true, false, cond}
use mathlib.Core.List.{List, [], ◌∷◌, ◌++◌, map, map-append, append_assoc, append-nil, Memᴰ}
use Prim.Native.Nat.{ℕ, ◌+◌, ◌≤◌, ◌<◌}
use native.Mathlib.Omega.{arith}
use lib.ListN.{length, set, length-set, length-append, length-map}
use Rattle.fit.specs.Listing.{overlay, Rising, those}
use Rattle.fit.specs.Answer.{Sought, Lent, laid, nothing, found_in, told, outcome, filled, Answer, noted, listed, Tried}
use Rattle.fit.specs.declared.answer.Found.{Found}
use Rattle.fit.proofs.Laws.Listings.{overlay_none, overlay_more}
use Rattle.fit.proofs.Laws.Sums.{least_none, least_more}
use Rattle.fit.proofs.Laws.Risings.{finds_all}
use Rattle.fit.proofs.Laws.Answers.{tried_one, order_one}

-- ---- those of a list, and one more
front_append : (b : Bool) (a : ℕ) (u v w : List ℕ) → w ≡ u ++ v → cond b (a ∷ w) w ≡ cond b (a ∷ u) u ++ v
front_append true a u v w e = ap (λ (t : List ℕ). a ∷ t) e
front_append false a u v w e = e

pub those_append : (p : ℕ → Bool) (l r : List ℕ) → those p (l ++ r) ≡ those p l ++ those p r
unfolding those
those_append p [] r = refl
those_append p (a ∷ l) r = front_append (p a) a (those p l) (those p r) (those p (l ++ r)) (those_append p l r)

pub those_front : (p : ℕ → Bool) (s : ℕ) (l : List ℕ) → p s ≡ true → those p (s ∷ l) ≡ s ∷ those p l
unfolding those
those_front p s l e = rw e

those_hit : (p : ℕ → Bool) (l : List ℕ) (s : ℕ) → p s ≡ true → those p (l ++ (s ∷ [])) ≡ those p l ++ (s ∷ [])
unfolding those
those_hit p l s e = rw (those_append p l (s ∷ []), e)

those_miss : (p : ℕ → Bool) (l : List ℕ) (s : ℕ) → p s ≡ false → those p (l ++ (s ∷ [])) ≡ those p l
unfolding those
those_miss p l s e = rw (those_append p l (s ∷ []), e) (append-nil (those p l))

-- ---- what the next window adds to what was lent, and to the counts
lay_none : (t : Sought) (entry : Lent) → entry ≡ laid t [] entry
lay_none t entry = λ i. record { list = sym (overlay_none entry.list) i; sums = sym (overlay_none entry.sums) i }

lay_one : (t : Sought) (ps : List ℕ) (entry : Lent) (s : ℕ) → listed true (t.sum s) s (length ps) (laid t ps entry) ≡ laid t (ps ++ (s ∷ [])) entry
unfolding listed
lay_one t ps entry s =
    let sums : set (overlay (map t.sum ps) entry.sums) (length ps) (t.sum s) ≡ overlay (map t.sum (ps ++ (s ∷ []))) entry.sums =
    rw (map-append t.sum ps (s ∷ [])) (rw (length-map ps t.sum) at (overlay_more (map t.sum ps) entry.sums (t.sum s))) in
    λ i. record { list = overlay_more ps entry.list s i; sums = sums i }

tally_none : (t : Sought) → nothing ≡ found_in t [] 0
tally_none t = λ i. record { total = 0; tried = 0; least = sym least_none i }

tally_hit : (t : Sought) (ps : List ℕ) (s n : ℕ) → noted true (t.sum s) (found_in t ps n) ≡ found_in t (ps ++ (s ∷ [])) (n + 1)
unfolding noted
tally_hit t ps s n = rw (length-append, map-append t.sum ps (s ∷ []), least_more (map t.sum ps) (t.sum s), length-map ps t.sum)

tally_miss : (t : Sought) (ps : List ℕ) (sum n : ℕ) → noted false sum (found_in t ps n) ≡ found_in t ps (n + 1)
unfolding noted
tally_miss t ps sum n = refl

miss_lists : (sum s at : ℕ) (l : Lent) → listed false sum s at l ≡ l
unfolding listed
miss_lists sum s at l = refl

-- no lent list changes its length
pub listed_long : (b : Bool) (sum s at : ℕ) (l : Lent)
    → (length (listed b sum s at l).list ≡ length l.list) × (length (listed b sum s at l).sums ≡ length l.sums)
unfolding listed
listed_long true sum s at l = (length-set l.list at s, length-set l.sums at sum)
listed_long false sum s at l = (refl, refl)

-- the windows of the walk before `rest` were tried, `bound` of them at most: the counts r and what was lent tell the places among them
pub record Along (t : Sought) (walk rest : List ℕ) (bound : ℕ) (entry held : Lent) (r : Found) : Type 0 where
  pub done : List ℕ
  pub split : done ++ rest ≡ walk
  pub lists : held ≡ laid t (those t.place done) entry
  pub counts : r ≡ found_in t (those t.place done) (length done)
  pub order : r.total ≤ r.tried
  pub room : r.tried ≤ bound
  pub long : length held.list ≡ length entry.list
  pub sums_long : length held.sums ≡ length entry.sums

nothing_counts : (bound : ℕ) {r : Found} → r ≡ nothing → (r.total ≤ r.tried) × (r.tried ≤ bound)
nothing_counts bound e = rw e (omega arith, omega arith)

pub along_start : (t : Sought) (walk : List ℕ) (bound : ℕ) (entry : Lent) {r : Found} → r ≡ nothing → Along t walk walk bound entry entry r
unfolding those
along_start t walk bound entry e = record {
  done = [];
  split = refl;
  lists = lay_none t entry;
  counts = e ∙ tally_none t;
  order = (nothing_counts bound e).0;
  room = (nothing_counts bound e).1;
  long = refl;
  sums_long = refl;
}

along_step : (t : Sought) (b : Bool) (s bound bound' : ℕ) {walk rest : List ℕ} {entry held : Lent} {r : Found}
    → Along t walk (s ∷ rest) bound entry held r → bound < bound' → t.place s ≡ b
    → Along t walk rest bound' entry (listed b (t.sum s) s r.total held) (noted b (t.sum s) r)
along_step t true s bound bound' {rest = rest} {entry = entry} {held = held} {r = r} f h e = record {
  done = f.done ++ (s ∷ []);
  split = append_assoc f.done (s ∷ []) rest ∙ f.split;
  lists = rw (those_hit t.place f.done s e, f.lists, f.counts) (lay_one t (those t.place f.done) entry s);
  counts = rw (those_hit t.place f.done s e, f.counts, length-append f.done (s ∷ [])) (tally_hit t (those t.place f.done) s (length f.done));
  order = order_one true (t.sum s) r f.order;
  room = omega (arith, tried_one true (t.sum s) r);
  long = (listed_long true (t.sum s) s r.total held).0 ∙ f.long;
  sums_long = (listed_long true (t.sum s) s r.total held).1 ∙ f.sums_long;
}
along_step t false s bound bound' {rest = rest} {held = held} {r = r} f h e = record {
  done = f.done ++ (s ∷ []);
  split = append_assoc f.done (s ∷ []) rest ∙ f.split;
  lists = rw (those_miss t.place f.done s e) (miss_lists (t.sum s) s r.total held ∙ f.lists);
  counts =
      rw (those_miss t.place f.done s e, f.counts, length-append f.done (s ∷ [])) (tally_miss t (those t.place f.done) (t.sum s) (length f.done));
  order = order_one false (t.sum s) r f.order;
  room = omega (arith, tried_one false (t.sum s) r);
  long = (listed_long false (t.sum s) s r.total held).0 ∙ f.long;
  sums_long = (listed_long false (t.sum s) s r.total held).1 ∙ f.sums_long;
}

-- after the walk's next window was tried
pub along_tried : (t : Sought) (s bound bound' : ℕ) {walk rest : List ℕ} {entry held held' : Lent} {r r' : Found}
    → Along t walk (s ∷ rest) bound entry held r → Tried t s r held r' held' → bound < bound' → Along t walk rest bound' entry held' r'
along_tried t s bound bound' f n h = rw (n.counts, n.lists) (along_step t (t.place s) s bound bound' f h refl)

-- what is left may be written otherwise, and a step that tries nothing may move the bound
pub along_same : {t : Sought} {walk rest rest' : List ℕ} {bound : ℕ} {entry held : Lent} {r : Found} → rest ≡ rest'
    → Along t walk rest bound entry held r → Along t walk rest' bound entry held r
along_same e f = rw e at f

pub along_on : {t : Sought} {walk rest rest' : List ℕ} {bound bound' : ℕ} {entry held : Lent} {r : Found} → rest ≡ rest' → bound ≤ bound'
    → Along t walk rest bound entry held r → Along t walk rest' bound' entry held r
along_on {t} {walk} {rest} {bound' = bound'} {entry} {held} {r} e h f =
    let g : Along t walk rest bound' entry held r =
    record { done = f.done; split = f.split; lists = f.lists; counts = f.counts; order = f.order; long = f.long; sums_long = f.sums_long; room = omega (arith, f.room) } in
    rw e at g

-- the end of a walk that rises and has all that is sought among its windows
pub along_end : (t : Sought) (walk : List ℕ) (bound tried : ℕ) {entry held : Lent} {r : Found}
    → ((s : ℕ) → t.place s ≡ true → s < t.count) → length walk ≡ tried → Rising 0 walk → ((s : ℕ) → t.place s ≡ true → Memᴰ s walk)
    → Along t walk [] bound entry held r → Answer 0 t tried entry (told r) held
unfolding outcome filled
along_end t walk bound tried below long rises has f =
    let e : f.done ≡ walk = sym (append-nil f.done) ∙ f.split in
    let same = finds_all t.place t.count walk below rises has in
    record { result = rw (← long, ← same, ← e) (ap (λ (f : Found). told f) f.counts); lists = rw (← same, ← e) f.lists }
