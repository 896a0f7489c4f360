-- What the answer says, in document 02's words: the first of all places, none exactly when there is none, and the windows tried. Assumes nothing.
use mathlib.Core.Path.{◌≡◌, refl, sym, ap, ◌∙◌}
use mathlib.Core.Bool.{Bool, true, false, cond}
use mathlib.Core.Logic.{⊎_elim, ◌↔◌}
use mathlib.Core.List.Memᴰ
use mathlib.Core.List.{List, [], ◌∷◌, ◌++◌, Memᴰ}
use Prim.Native.Nat.{ℕ, zero, suc, ◌+◌, ◌≤◌, min}
use native.Mathlib.Omega.{arith}
use lib.ListN.{length, get_or}
use Rattle.fit.specs.Place.{Place, is_place}
use Rattle.fit.specs.Listing.{Rising, places, overlay}
use Rattle.fit.specs.Listing.Rising.{none, next}
use Rattle.fit.specs.Refusal.{search_refusal, Accepted}
use Rattle.fit.specs.Answer.{sought_of, Lent, Answer, Answers}
use Rattle.fit.specs.declared.answer.Search.{Search}
use Rattle.fit.proofs.Laws.Bools.{is_false}
use Rattle.fit.proofs.Laws.Refusals.{accepted, none_exactly}
use Rattle.fit.proofs.Laws.Listings.{overlay_first}
use Rattle.fit.proofs.Laws.Risings.{rising_min, rising_first}
use Rattle.fit.proofs.Laws.Places.{place_test, test_place, in_places, place_in, places_rise}
use Rattle.fit.proofs.Laws.Answers.{sought_places, answer_accepted, answer_refused, answer_done}
use Rattle.last.specs.Walk.{last_walk_of}
use Rattle.last.proofs.Laws.Ordinary.{walk_rises, walk_has}
use Rattle.first.specs.First.{number_of, value_of, place_of, tried_of, told_of, up_to_place, first_answer}
use Rattle.std.specs.Prelude.{Option, None, Some, Result, Ok, Err}
use Rattle.fit.specs.Refused.{number_of as refusal_number}
use Rattle.fit.specs.declared.refusal.Refusal.{Refusal}
use Rattle.fit.proofs.Laws.Refused.{number_some, number_only}
use Rattle.first.specs.declared.First.{First}
use Rattle.first.specs.declared.Flat.{Flat}
use Rattle.first.proofs.Laws.Looking.{NoneOf, up_whole, up_to}

-- ---- number and value tell the case
spot_only : (p p' : Option ℕ) → number_of p ≡ number_of p' → value_of p ≡ value_of p' → p ≡ p'
unfolding number_of value_of
spot_only None None n v = refl
spot_only None (Some s) n v = absurd (omega (arith, n))
spot_only (Some s) None n v = absurd (omega (arith, n))
spot_only (Some s) (Some s') n v = ap Some v

number_nowhere : number_of None ≡ 0
unfolding number_of
number_nowhere = refl

number_at : (s : ℕ) → number_of (Some s) ≡ 1
unfolding number_of
number_at s = refl

value_nowhere : value_of None ≡ 0
unfolding value_of
value_nowhere = refl

value_at : (s : ℕ) → value_of (Some s) ≡ s
unfolding value_of
value_at s = refl

-- ---- no second answer
same_first : (f f' : First) → f.place ≡ f'.place → f.tried ≡ f'.tried → f ≡ f'
same_first f f' p t = λ i. record { place = p i; tried = t i }

told_only : (r r' : Result First Refusal) → told_of r ≡ told_of r' → r ≡ r'
told_only (Ok f) (Ok f') e =
    ap (λ (u : First). Ok u)
    (same_first f f' (spot_only f.place f'.place (ap (λ (k : Flat). k.found) e) (ap (λ (k : Flat). k.place) e)) (ap (λ (k : Flat). k.tried) e))
told_only (Ok f) (Err e') e = absurd (omega (arith, number_some e', ap (λ (k : Flat). k.refusal) e))
told_only (Err d) (Ok f') e = absurd (omega (arith, number_some d, ap (λ (k : Flat). k.refusal) e))
told_only (Err d) (Err e') e = ap (λ (u : Refusal). Err u) (number_only d e' (ap (λ (k : Flat). k.refusal) e))

pub no_second_first : (definition : Flat) (r r' : Result First Refusal) → told_of r ≡ definition → told_of r' ≡ definition → r ≡ r'
no_second_first definition r r' e e' = told_only r r' (e ∙ sym e')

-- which it is, by the number
as_refused : (r : Result First Refusal) (num : ℕ) → (told_of r).refusal ≡ suc num → (e : Refusal) × (r ≡ Err e) × (refusal_number e ≡ suc num)
as_refused (Ok f) num z = absurd (omega (arith, z))
as_refused (Err e) num z = (e, refl, z)

as_granted : (r : Result First Refusal) → (told_of r).refusal ≡ 0 → (f : First) × (r ≡ Ok f)
as_granted (Ok f) z = (f, refl)
as_granted (Err e) z = absurd (omega (arith, number_some e, z))

-- ---- the windows up to a place are windows of the walk, and all of them where it has no place
up_short : (p : ℕ → Bool) (walk : List ℕ) → length (up_to_place p walk) ≤ length walk
unfolding up_to_place
up_short p [] = omega arith
up_short p (s ∷ walk) = by_test (p s) (up_short p walk)
  where
    by_test : (b : Bool) → length (up_to_place p walk) ≤ length walk → length (s ∷ cond b [] (up_to_place p walk)) ≤ length (s ∷ walk)
    by_test true h = omega arith
    by_test false h = omega (arith, h)

none_all : (p : ℕ → Bool) (walk : List ℕ) → ((s : ℕ) → p s ≡ false) → NoneOf p walk
unfolding NoneOf
none_all p [] h = tt
none_all p (s ∷ walk) h = (h s, none_all p walk h)

-- ---- the first entry of a list
front_none : (l : List ℕ) → length l ≡ 0 → get_or l 0 0 ≡ 0
front_none [] e = refl
front_none (s ∷ l) e = absurd (omega (arith, e))

front_in : (l : List ℕ) → 1 ≤ length l → Memᴰ (get_or l 0 0) l
front_in [] h = absurd (omega arith)
front_in (s ∷ l) h = Memᴰ.head refl

-- ---- the walk up to the window s, the first that passes, which is the last of so many windows that were tried
pub record UpTo (p : ℕ → Bool) (walk : List ℕ) (s tried : ℕ) : Type 0 where
  pub before : List ℕ
  pub behind : List ℕ
  pub split : before ++ (s ∷ behind) ≡ walk
  pub none_before : NoneOf p before
  pub count : tried ≡ length before + 1

-- on a rising walk that has s
reaches : (p : ℕ → Bool) (s : ℕ) {b : ℕ} {walk : List ℕ} → p s ≡ true → ((t : ℕ) → p t ≡ true → s ≤ t) → Rising b walk → Memᴰ s walk
    → UpTo p walk s (length (up_to_place p walk))
unfolding NoneOf
reaches p s hit least none m = absurd (Memᴰ.not-nil m)
reaches p s hit least (next {a = a} {l = l} h r) m =
    ⊎_elim
    (λ e. let split : ◌≡◌ {A = List ℕ} (s ∷ l) (a ∷ l) = ap (λ (k : ℕ). k ∷ l) e in
    record { before = []; behind = l; split = split; none_before = tt; count = up_to p [] l s split tt hit })
    (λ n. let u = reaches p s hit least r n in
    let miss : p a ≡ false = is_false (p a) (λ t. omega (arith, least a t, rising_min r n)) in
    let split : (a ∷ u.before) ++ (s ∷ u.behind) ≡ a ∷ l = ap (λ (k : List ℕ). a ∷ k) u.split in
    record {
      before = a ∷ u.before;
      behind = u.behind;
      split = split;
      none_before = (miss, u.none_before);
      count = up_to p (a ∷ u.before) u.behind s split (miss, u.none_before) hit;
    })
    (Memᴰ.cases_cons m)

-- ---- the answer r of a call
module _ (delta gamma : ℕ) (x y : List ℕ) (r : Result First Refusal)
    (a : told_of r ≡ first_answer (search_refusal delta gamma x y) (sought_of delta gamma x y) (last_walk_of delta gamma x y)) where
  -- refused: by the refusal that has the searchers' number; nowhere, and no window
  pub refused_nowhere : (num : ℕ) → search_refusal delta gamma x y ≡ suc num
      → (told_of r ≡ record { refusal = suc num; found = 0; place = 0; tried = 0 }) × ((e : Refusal) × (r ≡ Err e) × (refusal_number e ≡ suc num))
  unfolding first_answer
  refused_nowhere num e = let q = rw e at a in (q, as_refused r num (ap (λ (k : Flat). k.refusal) q))

  refused_none : (num : ℕ) → search_refusal delta gamma x y ≡ suc num → place_of r ≡ None
  refused_none num e = ap place_of (refused_nowhere num e).1.1

  refused_tried : (num : ℕ) → search_refusal delta gamma x y ≡ suc num → tried_of r ≡ 0
  refused_tried num e = ap tried_of (refused_nowhere num e).1.1

  -- a place is told only where the call is not refused
  at_accepted : (s : ℕ) → place_of r ≡ Some s → Accepted delta gamma x y
  at_accepted s e = by_number (search_refusal delta gamma x y) refl
    where
      by_number : (num : ℕ) → search_refusal delta gamma x y ≡ num → Accepted delta gamma x y
      by_number zero n = accepted delta gamma x y n
      by_number (suc num) n =
          absurd (let q : Some s ≡ None = sym e ∙ refused_none num n in omega (arith, ap number_of q, number_nowhere, number_at s))

  -- accepted: 0, the number and the value of the first place, and the windows tried
  module _ (ok : Accepted delta gamma x y) where
    granted : told_of r
        ≡ record {
          refusal = 0;
          found = min 1 (length (places delta gamma x y));
          place = get_or (places delta gamma x y) 0 0;
          tried = length (up_to_place (is_place delta gamma x y) (last_walk_of delta gamma x y));
        }
    unfolding first_answer
    granted = rw ((none_exactly delta gamma x y).1 ok, sought_places delta gamma x y) at a

    number_is : number_of (place_of r) ≡ min 1 (length (places delta gamma x y))
    number_is = ap (λ (f : Flat). f.found) granted

    value_is : value_of (place_of r) ≡ get_or (places delta gamma x y) 0 0
    value_is = ap (λ (f : Flat). f.place) granted

    -- not refused: an answer
    pub granted_first : (f : First) × (r ≡ Ok f)
    granted_first = as_granted r (ap (λ (f : Flat). f.refusal) granted)

    -- "none exactly when the total is 0"
    pub nowhere_exactly : (place_of r ≡ None) ↔ (length (places delta gamma x y) ≡ 0)
    nowhere_exactly = (
      λ e. omega (arith, number_is, ap number_of e, number_nowhere),
      λ z. spot_only (place_of r) None (omega (arith, number_is, number_nowhere)) (value_is ∙ front_none (places delta gamma x y) z ∙ sym value_nowhere),
    )

    -- "the first entry of the full list"
    pub at_exactly : (s : ℕ) → (place_of r ≡ Some s) ↔ ((1 ≤ length (places delta gamma x y)) × (get_or (places delta gamma x y) 0 0 ≡ s))
    at_exactly s = (
      λ e. (omega (arith, number_is, ap number_of e, number_at s), sym value_is ∙ ap value_of e ∙ value_at s),
      λ h. spot_only (place_of r) (Some s) (omega (arith, number_is, h.0, number_at s)) (value_is ∙ h.1 ∙ sym (value_at s)),
    )

    -- nowhere: no window is a place, and the whole walk was tried
    pub nowhere_no_place : place_of r ≡ None → (t : ℕ) → Place delta gamma x y t → ⊥
    nowhere_no_place e t p = omega (arith, nowhere_exactly.0 e, in_some (place_in delta gamma x y t p))
      where
        in_some : {t : ℕ} {l : List ℕ} → Memᴰ t l → 1 ≤ length l
        in_some {l = []} m = absurd (Memᴰ.not-nil m)
        in_some {l = s ∷ l} m = omega arith

    pub nowhere_whole : place_of r ≡ None → tried_of r ≡ length (last_walk_of delta gamma x y)
    nowhere_whole e =
        ap (λ (f : Flat). f.tried) granted
        ∙ ap length
        (up_whole (is_place delta gamma x y) (last_walk_of delta gamma x y)
        (none_all (is_place delta gamma x y) (last_walk_of delta gamma x y)
        (λ s. is_false (is_place delta gamma x y s) (λ t. nowhere_no_place e s (test_place delta gamma x y s t)))))

    -- beside a searcher's answer, by whatever number, that is not refused
    module _ (num tried : ℕ) (entry final : Lent) (q : Search) (b : Answer num (sought_of delta gamma x y) tried entry q final) (z : q.refusal ≡ 0) where
      total_is : q.total ≡ length (places delta gamma x y)
      total_is = (answer_done num _ tried entry q final b z).total ∙ ap length (sought_places delta gamma x y)

      -- none exactly when its total is 0
      pub nowhere_total : (place_of r ≡ None) ↔ (q.total ≡ 0)
      nowhere_total = (λ e. total_is ∙ nowhere_exactly.0 e, λ n. nowhere_exactly.1 (sym total_is ∙ n))

  -- a place is told
  module _ (s : ℕ) (e : place_of r ≡ Some s) where
    ok_at : Accepted delta gamma x y
    ok_at = at_accepted s e

    first_is : get_or (places delta gamma x y) 0 0 ≡ s
    first_is = ((at_exactly ok_at s).0 e).1

    -- it is one, and no place lies before it
    pub at_place : Place delta gamma x y s
    at_place = rw first_is at (in_places delta gamma x y (front_in (places delta gamma x y) ((at_exactly ok_at s).0 e).0))

    pub at_least : (t : ℕ) → Place delta gamma x y t → s ≤ t
    at_least t p = rw first_is at (rising_first (places_rise delta gamma x y) (place_in delta gamma x y t p))

    -- it is the first entry of the list that a searcher fills, if that has one
    pub spot_listed : (num tried : ℕ) (entry final : Lent) (q : Search) → Answer num (sought_of delta gamma x y) tried entry q final → q.refusal ≡ 0
        → 1 ≤ length entry.list → get_or final.list 0 0 ≡ s
    spot_listed num tried entry final q b z room =
        ap (λ (l : List ℕ). get_or l 0 0)
        ((answer_done num _ tried entry q final b z).list ∙ ap (λ (ps : List ℕ). overlay ps entry.list) (sought_places delta gamma x y))
        ∙ overlay_first (places delta gamma x y) entry.list ((at_exactly ok_at s).0 e).0 room ∙ first_is

    -- "up to and including that place": it is the last window of the walk that was tried
    pub at_tried : UpTo (is_place delta gamma x y) (last_walk_of delta gamma x y) s (tried_of r)
    at_tried =
        rw (ap (λ (f : Flat). f.tried) (granted ok_at))
        (reaches (is_place delta gamma x y) s (place_test delta gamma x y s at_place) (λ t h. at_least t (test_place delta gamma x y t h))
        (walk_rises delta gamma x y ok_at.asked) (walk_has delta gamma x y ok_at.asked s at_place))

  -- beside last's own answer: never more windows, and as many where there is no place
  module _ (entry final : Lent) (q : Search) (b : Answers delta gamma x y (length (last_walk_of delta gamma x y)) entry q final) where
    by_number : (C : Type 0) → ((ok : Accepted delta gamma x y) → tried_of r ≡ length (up_to_place (is_place delta gamma x y) (last_walk_of delta gamma x y))
        → q.tried ≡ length (last_walk_of delta gamma x y) → C) → (tried_of r ≡ 0 → q.tried ≡ 0 → C) → C
    by_number C f g = go (search_refusal delta gamma x y) refl
      where
        go : (num : ℕ) → search_refusal delta gamma x y ≡ num → C
        go zero e =
            let ok = accepted delta gamma x y e in
            f ok (ap (λ (k : Flat). k.tried) (granted ok)) (ap (λ (k : Search). k.tried) (answer_accepted delta gamma x y _ entry final q b ok).0)
        go (suc num) e =
            g (refused_tried num e) (ap (λ (k : Search). k.tried) (answer_refused delta gamma x y _ entry final q b num e).0)

    pub tried_most : tried_of r ≤ q.tried
    tried_most =
        by_number (tried_of r ≤ q.tried) (λ ok m n. omega (arith, m, n, up_short (is_place delta gamma x y) (last_walk_of delta gamma x y)))
        (λ m n. omega (arith, m, n))

    pub tried_all : place_of r ≡ None → tried_of r ≡ q.tried
    tried_all e = by_number (tried_of r ≡ q.tried) (λ ok m n. nowhere_whole ok e ∙ sym n) (λ m n. m ∙ sym n)
