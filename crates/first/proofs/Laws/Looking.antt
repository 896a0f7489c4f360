-- Laws of looking for the first place along a walk, as long as no window is one. Assumes nothing.
use mathlib.Core.Path.{◌≡◌, refl, sym, ap, ◌∙◌}
use mathlib.Core.Bool.{Bool, true, false}
use mathlib.Core.Logic.{⊎_elim}
use mathlib.Core.List.Memᴰ
use mathlib.Core.List.{List, [], ◌∷◌, ◌++◌, append_assoc, append-nil, Memᴰ}
use Prim.Native.Nat.{ℕ, zero, suc, ◌+◌, ◌≤◌, ◌<◌, min}
use native.Mathlib.Omega.{arith}
use lib.ListN.{length, get_or, length-append}
use Rattle.fit.specs.Listing.{those}
use Rattle.fit.specs.Refusal.{search_refusal}
use Rattle.fit.specs.Spans.{rule_in}
use Rattle.fit.specs.Answer.{Sought, sought_by, sought_of, all}
use Rattle.fit.proofs.Laws.Bools.{not_both}
use Rattle.fit.proofs.Laws.Refusals.{none_exactly}
use Rattle.fit.proofs.Laws.Risings.{in_those}
use Rattle.fit.proofs.Laws.Alongs.{those_append, those_front}
use Rattle.fit.proofs.Laws.Compiled.{compiled_sought}
use Rattle.last.specs.Walk.{last_walk_of, walk_in}
use Rattle.last.specs.declared.walk.Prepared.{Prepared}
use Rattle.last.proofs.Laws.Ordinary.{Going}
use Rattle.first.specs.First.{number_of, value_of, told_of, up_to_place, first_answer}
use Rattle.std.specs.Prelude.{None, Some, Result, Ok, Err}
use Rattle.std.specs.Result.{IsErrAnd}
use Rattle.std.proofs.lemmas.Result.{err_from_is_err_and}
use Rattle.fit.specs.Refused.{number_of as refusal_number}
use Rattle.fit.specs.declared.refusal.Refusal.{Refusal}
use Rattle.fit.proofs.Laws.Refused.{number_some}
use Rattle.first.specs.declared.First.{First}
use Rattle.first.specs.declared.Flat.{Flat}

-- no window of a list passes p
unfoldable pub NoneOf : (ℕ → Bool) → List ℕ → Type 0
NoneOf p [] = Unit {0}
NoneOf p (s ∷ l) = (p s ≡ false) × NoneOf p l

module _ (p : ℕ → Bool) where
  none_more : (l : List ℕ) (s : ℕ) → NoneOf p l → p s ≡ false → NoneOf p (l ++ (s ∷ []))
  unfolding NoneOf
  none_more [] s n e = (e, tt)
  none_more (a ∷ l) s n e = (n.0, none_more l s n.1 e)

  -- windows that do not pass are none of those that do
  none_in : (l : List ℕ) → NoneOf p l → (s : ℕ) → Memᴰ s l → p s ≡ false
  unfolding NoneOf
  none_in [] n s m = absurd (Memᴰ.not-nil m)
  none_in (a ∷ l) n s m = ⊎_elim (λ e. ap p e ∙ n.0) (λ k. none_in l n.1 s k) (Memᴰ.cases_cons m)

  those_none : (l : List ℕ) → NoneOf p l → those p l ≡ []
  those_none l n = empty (those p l) (λ s m. let h = in_those p l m in not_both h.1 (none_in l n s h.0))
    where
      empty : (k : List ℕ) → ((s : ℕ) → Memᴰ s k → ⊥) → k ≡ []
      empty [] h = refl
      empty (s ∷ k) h = absurd (h s (Memᴰ.head refl))

  those_past : (l rest : List ℕ) → NoneOf p l → those p (l ++ rest) ≡ those p rest
  those_past l rest n = those_append p l rest ∙ ap (λ (k : List ℕ). k ++ those p rest) (those_none l n)

  -- they are tried on the way
  up_past : (l rest : List ℕ) → NoneOf p l → up_to_place p (l ++ rest) ≡ l ++ up_to_place p rest
  unfolding NoneOf up_to_place
  up_past [] rest n = refl
  up_past (s ∷ l) rest n = rw n.0 (ap (λ (t : List ℕ). s ∷ t) (up_past l rest n.1))

  pub up_whole : (l : List ℕ) → NoneOf p l → up_to_place p l ≡ l
  unfolding up_to_place
  up_whole l n = ap (up_to_place p) (sym (append-nil l)) ∙ up_past l [] n ∙ append-nil l

  -- and the first that passes is the last that is tried
  up_at : (s : ℕ) (rest : List ℕ) → p s ≡ true → up_to_place p (s ∷ rest) ≡ s ∷ []
  unfolding up_to_place
  up_at s rest e = rw e

  pub up_to : (before behind : List ℕ) (s : ℕ) {walk : List ℕ} → before ++ (s ∷ behind) ≡ walk → NoneOf p before → p s ≡ true
      → length (up_to_place p walk) ≡ length before + 1
  up_to before behind s e n hit =
      ap (λ (l : List ℕ). length (up_to_place p l)) (sym e)
      ∙ ap length (up_past before (s ∷ behind) n ∙ ap (λ (l : List ℕ). before ++ l) (up_at s behind hit)) ∙ length-append before (s ∷ [])

-- the windows of the walk before `rest` were tried, `bound` of them at most, and none of them passes
pub record Looked (p : ℕ → Bool) (walk rest : List ℕ) (bound tried : ℕ) : Type 0 where
  pub done : List ℕ
  pub split : done ++ rest ≡ walk
  pub none : NoneOf p done
  pub count : tried ≡ length done
  pub room : tried ≤ bound

pub looked_start : (p : ℕ → Bool) (bound : ℕ) {walk rest : List ℕ} → walk ≡ rest → Looked p walk rest bound 0
unfolding NoneOf
looked_start p bound e = record { done = []; split = sym e; none = tt; count = refl; room = omega arith }

pub looked_on : (p : ℕ → Bool) (s bound bound' tried : ℕ) (is : Bool) {walk rest rest' : List ℕ} → Looked p walk rest bound tried → rest ≡ s ∷ rest'
    → is ≡ p s → is ≡ false → bound < bound' → Looked p walk rest' bound' (tried + 1)
looked_on p s bound bound' tried is {rest' = rest'} f e told miss h = record {
  done = f.done ++ (s ∷ []);
  split = append_assoc f.done (s ∷ []) rest' ∙ ap (λ (l : List ℕ). f.done ++ l) (sym e) ∙ f.split;
  none = none_more p f.done s f.none (sym told ∙ miss);
  count = rw (length-append, f.count);
  room = omega (arith, f.room);
}

-- ---- the answer, on a walk that has all that is sought among its windows
module _ (t : Sought) (walk : List ℕ) (finds : those t.place walk ≡ all t) where
  pub first_at : (s bound tried : ℕ) (is : Bool) {rest rest' : List ℕ} → Looked t.place walk rest bound tried → rest ≡ s ∷ rest'
      → is ≡ t.place s → is ≡ true
      → told_of (Ok (record { place = Some s; tried = tried + 1 })) ≡ first_answer 0 t walk
  unfolding first_answer number_of value_of
  first_at s bound tried is {rest' = rest'} f e told taken =
      let p = t.place in
      let hit = sym told ∙ taken in
      let split : f.done ++ (s ∷ rest') ≡ walk = ap (λ (l : List ℕ). f.done ++ l) (sym e) ∙ f.split in
      let listed : all t ≡ s ∷ those p rest' =
      sym finds ∙ ap (those p) (sym split) ∙ those_past p f.done (s ∷ rest') f.none ∙ those_front p s rest' hit in
      let found : 1 ≡ min 1 (length (all t)) = omega (arith, ap length listed) in
      let place : s ≡ get_or (all t) 0 0 = ap (λ (l : List ℕ). get_or l 0 0) (sym listed) in
      let count : tried + 1 ≡ length (up_to_place p walk) = omega (arith, f.count, up_to p f.done rest' s split f.none hit) in
      λ i. record { refusal = 0; found = found i; place = place i; tried = count i }

  pub first_none : (bound tried : ℕ) {rest : List ℕ} → Looked t.place walk rest bound tried → rest ≡ []
      → told_of (Ok (record { place = None; tried = tried })) ≡ first_answer 0 t walk
  unfolding first_answer number_of value_of
  first_none bound tried f e =
      let p = t.place in
      let whole : f.done ≡ walk = sym (append-nil f.done) ∙ ap (λ (l : List ℕ). f.done ++ l) (sym e) ∙ f.split in
      let listed : all t ≡ [] = sym finds ∙ ap (those p) (sym whole) ∙ those_none p f.done f.none in
      let windows : up_to_place p walk ≡ f.done = ap (up_to_place p) (sym whole) ∙ up_whole p f.done f.none in
      rw (listed, windows, f.count)

-- refused
pub first_refused : (num : ℕ) (t : Sought) (walk : List ℕ) (e : Refusal) → refusal_number e ≡ num → told_of (Err e) ≡ first_answer num t walk
unfolding first_answer number_of value_of
first_refused zero t walk e h = absurd (omega (arith, number_some e, h))
first_refused (suc num) t walk e h = rw h

-- a refusal that is handed on
pub handed_first : (num : ℕ) (t : Sought) (walk : List ℕ) (r : Result First Refusal) (e : Refusal) → IsErrAnd r (λ x. x ≡ e) → refusal_number e ≡ num
    → told_of r ≡ first_answer num t walk
handed_first num t walk r e q h = let p = err_from_is_err_and r q in rw (p.1, p.2) (first_refused num t walk e h)

-- what it answers over the spans is its answer
pub going_first : (delta gamma : ℕ) (x y : List ℕ) {p : Prepared} {told : Flat} → Going delta gamma x y p
    → told ≡ first_answer 0 (sought_by (rule_in p.spans.rows) p.spans.m gamma y) (walk_in p.spans.rows p.spans.m y)
    → told ≡ first_answer (search_refusal delta gamma x y) (sought_of delta gamma x y) (last_walk_of delta gamma x y)
going_first delta gamma x y {p} at e =
    rw ((none_exactly delta gamma x y).1 at.ok, ← compiled_sought delta gamma x y p.spans.rows at.made at.ok) (rw at.points at (rw at.walk at e))
