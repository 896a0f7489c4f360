-- Laws of answers: refused, accepted, one window noted, and no second answer. Assumes nothing.
use mathlib.Core.Path.{◌≡◌, refl, sym, ap, ap₂, ◌∙◌}
use mathlib.Core.Bool.{Bool, true, false}
use mathlib.Core.List.{List, map}
use Prim.Native.Nat.{ℕ, zero, suc, ◌+◌, ◌≤◌}
use native.Mathlib.Omega.{arith}
use lib.ListN.{length, set}
use Rattle.fit.specs.Rule.{Rule, sum_cost, is_place_by}
use Rattle.fit.specs.Place.{rule_of, sum_diff, is_place, windows}
use Rattle.fit.specs.Refusal.{search_refusal, Accepted}
use Rattle.fit.specs.Listing.{up_to, places, overlay}
use Rattle.fit.specs.Sums.{least_of, lowered}
use Rattle.std.specs.Option.{is_some, unwrap_or}
use Rattle.std.specs.Bool.{then_some}
use Rattle.fit.specs.Answer.{Sought, sought_by, sought_of, all, Lent, lent, laid, begun, tally, outcome, filled, Answer, Answers, noted, listed, Noted}
use Rattle.fit.specs.declared.answer.Found.{Found}
use Rattle.fit.specs.declared.answer.Search.{Search}
use Rattle.fit.proofs.Laws.Listings.{up_short}
use Rattle.fit.proofs.Laws.Sums.{sums_same}
use Rattle.fit.proofs.Laws.Risings.{in_up}
use Rattle.fit.proofs.Laws.Refusals.{never_four, none_exactly}

-- ---- a search that has begun
pub begun_number : (num : ℕ) {r : Search} → r ≡ begun num → r.refusal ≡ num
begun_number num e = ap (λ (r : Search). r.refusal) e

-- it is refused
pub refused_by : (num : ℕ) (t : Sought) (tried : ℕ) (entry : Lent) → (num ≡ 0 → ⊥) → Answer num t tried entry (begun num) entry
unfolding outcome filled
refused_by zero t tried entry h = absurd (h refl)
refused_by (suc num) t tried entry h = record { result = refl; lists = refl }

pub refused : (num : ℕ) (t : Sought) (tried : ℕ) (entry : Lent) {r : Search} → r ≡ begun num → (r.refusal ≡ 0 → ⊥) → Answer num t tried entry r entry
refused num t tried entry e h = rw e (refused_by num t tried entry (λ z. h (begun_number num e ∙ z)))

-- or accepted
none_refused : (num : ℕ) {r : Search} → r ≡ begun num → r.refusal ≡ 0 → num ≡ 0
none_refused num e z = sym (begun_number num e) ∙ z

pub begun_none : (num : ℕ) {r : Search} → r ≡ begun num → r.refusal ≡ 0 → r ≡ begun 0
begun_none num e z = e ∙ ap begun (none_refused num e z)

-- ---- what is sought under a rule that has the profile's places is what is sought for the profile
pub same_sought : (r : Rule) (delta gamma : ℕ) (x y : List ℕ) → ((s : ℕ) → is_place_by r (length x) gamma y s ≡ is_place_by (rule_of delta x) (length x) gamma y s)
    → ((s : ℕ) → sum_cost r.cost y s (length x) ≡ sum_diff x y s) → sought_by r (length x) gamma y ≡ sought_of delta gamma x y
unfolding is_place
same_sought r delta gamma x y same sums = λ i. record { count = windows (length x) (length y); place = λ s. same s i; sum = λ s. sums s i }

-- where other windows may have other sums: the same windows are places, and each place has the same sum
pub record SameSought (t t' : Sought) : Type 0 where
  pub same_count : t.count ≡ t'.count
  pub same_place : (s : ℕ) → t.place s ≡ t'.place s
  pub same_sum : (s : ℕ) → t.place s ≡ true → t.sum s ≡ t'.sum s

module _ (t t' : Sought) (q : SameSought t t') where
  all_same : all t ≡ all t'
  all_same = ap₂ up_to (λ i s. q.same_place s i) q.same_count

  found_sums : map t.sum (all t) ≡ map t'.sum (all t')
  found_sums = sums_same t.sum t'.sum (all t) (λ s m. q.same_sum s (in_up t.place t.count m).1) ∙ ap (map t'.sum) all_same

  same_tally : (tried : ℕ) → tally t (all t) tried ≡ tally t' (all t') tried
  same_tally tried = λ i. record { refusal = 0; total = length (all_same i); tried = tried; least = least_of (found_sums i) }

  same_laid : (entry : Lent) → laid t (all t) entry ≡ laid t' (all t') entry
  same_laid entry = λ i. record { list = overlay (all_same i) entry.list; sums = overlay (found_sums i) entry.sums }

  -- then they have the same answers
  pub answer_same : (num tried : ℕ) (entry : Lent) {r : Search} {final : Lent} → Answer num t tried entry r final → Answer num t' tried entry r final
  unfolding outcome filled
  answer_same zero tried entry a = record { result = a.result ∙ same_tally tried; lists = a.lists ∙ same_laid entry }
  answer_same (suc num) tried entry a = record { result = a.result; lists = a.lists }

-- ---- what an answer says, in document 01's words
-- what is sought is the list of places
pub sought_places : (delta gamma : ℕ) (x y : List ℕ) → all (sought_of delta gamma x y) ≡ places delta gamma x y
unfolding places
sought_places delta gamma x y = refl

pub places_short : (delta gamma : ℕ) (x y : List ℕ) → length (places delta gamma x y) ≤ windows (length x) (length y)
places_short delta gamma x y = rw (← sought_places delta gamma x y) (up_short (sought_of delta gamma x y).place (windows (length x) (length y)))

-- neither the number nor a count of an answer is above what the refusal, the places and the windows tried are at most
pub outcome_small : (num : ℕ) (t : Sought) (tried b : ℕ) → num ≤ b → (num ≡ 0 → (length (all t) ≤ b) × (tried ≤ b))
    → ((outcome num t tried).refusal ≤ b) × ((outcome num t tried).total ≤ b) × ((outcome num t tried).tried ≤ b)
unfolding outcome
outcome_small zero t tried b h small = (h, (small refl).0, (small refl).1)
outcome_small (suc num) t tried b h small = (h, omega arith, omega arith)

module _ (delta gamma : ℕ) (x y : List ℕ) (tried : ℕ) (entry final : Lent) (r : Search) (a : Answers delta gamma x y tried entry r final) where
  -- accepted: "the total of places and the count of windows tried", and "the least sum over all places"; the first places and the first sums, as many
  -- as fit into each list, entries beyond untouched
  pub answer_accepted : Accepted delta gamma x y
      → (r ≡ record { refusal = 0; total = length (places delta gamma x y); tried = tried; least = least_of (map (sum_diff x y) (places delta gamma x y)) })
      × (final.list ≡ overlay (places delta gamma x y) entry.list) × (final.sums ≡ overlay (map (sum_diff x y) (places delta gamma x y)) entry.sums)
  unfolding outcome filled
  answer_accepted ok =
      let none = (none_exactly delta gamma x y).1 ok in
      let lists : final ≡ laid (sought_of delta gamma x y) (places delta gamma x y) entry = rw (none, sought_places delta gamma x y) at a.lists in
      (rw (none, sought_places delta gamma x y) at a.result, ap (λ (v : Lent). v.list) lists, ap (λ (v : Lent). v.sums) lists)

  -- refused: "its number with all counts 0", and "A refusal touches neither"
  pub answer_refused : (num : ℕ) → search_refusal delta gamma x y ≡ suc num
      → (r ≡ record { refusal = suc num; total = 0; tried = 0; least = 0 }) × (final.list ≡ entry.list) × (final.sums ≡ entry.sums)
  unfolding outcome filled
  answer_refused num e =
      let lists : final ≡ entry = rw e at a.lists in
      (rw e at a.result, ap (λ (v : Lent). v.list) lists, ap (λ (v : Lent). v.sums) lists)

-- ---- by whatever number: an answer that is not refused has all that is sought, the windows tried, the least sum, and the lists
number_of : (num : ℕ) (t : Sought) (tried : ℕ) → (outcome num t tried).refusal ≡ num
unfolding outcome
number_of zero t tried = refl
number_of (suc num) t tried = refl

-- an answer has the number that it is refused by, or 0
pub answer_number : (num : ℕ) (t : Sought) (tried : ℕ) (entry : Lent) (r : Search) (final : Lent) → Answer num t tried entry r final → r.refusal ≡ num
answer_number num t tried entry r final a = ap (λ (q : Search). q.refusal) a.result ∙ number_of num t tried

-- #104: of 4 "it is shown that it never occurs", in no answer of a search
pub four_never_occurs : (delta gamma : ℕ) (x y : List ℕ) (tried : ℕ) (entry : Lent) (r : Search) (final : Lent)
    → Answers delta gamma x y tried entry r final → r.refusal ≡ 4 → ⊥
four_never_occurs delta gamma x y tried entry r final a e =
    never_four delta gamma x y (sym (answer_number (search_refusal delta gamma x y) (sought_of delta gamma x y) tried entry r final a) ∙ e)

pub record Done (t : Sought) (tried : ℕ) (entry : Lent) (r : Search) (final : Lent) : Type 0 where
  pub total : r.total ≡ length (all t)
  pub windows : r.tried ≡ tried
  pub least : r.least ≡ least_of (map t.sum (all t))
  pub list : final.list ≡ overlay (all t) entry.list
  pub sums : final.sums ≡ overlay (map t.sum (all t)) entry.sums

pub answer_done : (num : ℕ) (t : Sought) (tried : ℕ) (entry : Lent) (r : Search) (final : Lent) → Answer num t tried entry r final → r.refusal ≡ 0 → Done t tried entry r final
unfolding outcome filled
answer_done num t tried entry r final a z =
    let none : num ≡ 0 = sym (answer_number num t tried entry r final a) ∙ z in
    let result : r ≡ outcome 0 t tried = rw none at a.result in
    let lists : final ≡ filled 0 t entry = rw none at a.lists in
    record {
      total = ap (λ (q : Search). q.total) result;
      windows = ap (λ (q : Search). q.tried) result;
      least = ap (λ (q : Search). q.least) result;
      list = ap (λ (l : Lent). l.list) lists;
      sums = ap (λ (l : Lent). l.sums) lists;
    }

-- ---- no second answer satisfies the statement
pub only_answer : (num : ℕ) (t : Sought) (tried : ℕ) (entry : Lent) (r r' : Search) (l l' : Lent)
    → Answer num t tried entry r l → Answer num t tried entry r' l' → (r ≡ r') × (l ≡ l')
only_answer num t tried entry r r' l l' a b = (a.result ∙ sym b.result, a.lists ∙ sym b.lists)

-- one result, and one content of each list
pub both_lists : {l l' v v' : List ℕ} → lent l v ≡ lent l' v' → (l ≡ l') × (v ≡ v')
both_lists e = (ap (λ (k : Lent). k.list) e, ap (λ (k : Lent). k.sums) e)

pub no_second_answer : (delta gamma : ℕ) (x y : List ℕ) (tried : ℕ) (entry : Lent) (r r' : Search) (l l' v v' : List ℕ)
    → Answers delta gamma x y tried entry r (lent l v) → Answers delta gamma x y tried entry r' (lent l' v') → (r ≡ r') × (l ≡ l') × (v ≡ v')
no_second_answer delta gamma x y tried entry r r' l l' v v' a b =
    let same = only_answer _ _ tried entry r r' (lent l v) (lent l' v') a b in
    let lists = both_lists same.1 in
    (same.0, lists.0, lists.1)

-- ---- one window
pub noted_hit : (hit : Bool) (sum s : ℕ) (before : Found) (entry : Lent) {least : ℕ} {list sums : List ℕ} → hit ≡ true
    → least ≡ lowered before.total before.least sum → list ≡ set entry.list before.total s → sums ≡ set entry.sums before.total sum
    → Noted hit sum s before entry (record { total = before.total + 1; tried = before.tried + 1; least = least }) (lent list sums)
unfolding noted listed
noted_hit hit sum s before entry e l f g = record { counts = rw (e, l); lists = rw (e, f, g) }

pub noted_miss : (hit : Bool) (sum s : ℕ) (before : Found) (entry : Lent) → hit ≡ false
    → Noted hit sum s before entry (record { total = before.total; tried = before.tried + 1; least = before.least }) entry
unfolding noted listed
noted_miss hit sum s before entry e = record { counts = rw e; lists = rw e }

-- a window that was noted by a test's value was noted by the test; of a window that is no place the sum does not matter
noted_sum : (hit : Bool) (sum sum' s : ℕ) (before : Found) (entry : Lent) {r : Found} {final : Lent} → (hit ≡ true → sum ≡ sum')
    → Noted hit sum s before entry r final → Noted hit sum' s before entry r final
unfolding noted listed
noted_sum true sum sum' s before entry e h = rw (e refl) at h
noted_sum false sum sum' s before entry e h = record { counts = h.counts; lists = h.lists }

pub noted_as : (b b' : Bool) (sum sum' s : ℕ) (before : Found) (entry : Lent) {r : Found} {final : Lent}
    → b ≡ b' → (b' ≡ true → sum ≡ sum') → Noted b sum s before entry r final → Noted b' sum' s before entry r final
noted_as b b' sum sum' s before entry e f h = noted_sum b' sum sum' s before entry f (rw e at h)

-- a window is noted with its sum where it passes a test, and else as none
pub noted_if : (b : Bool) (sum s : ℕ) (before : Found) (entry : Lent) {r : Found} {final : Lent}
    → Noted (is_some (then_some b sum)) (unwrap_or (then_some b sum) 0) s before entry r final → Noted b sum s before entry r final
noted_if true sum s before entry h = h
noted_if false sum s before entry h = noted_sum false 0 sum s before entry (λ e. absurd (cc)) h

-- no second result of a noted window
pub no_second_note : (hit : Bool) (sum s : ℕ) (before : Found) (entry : Lent) (r r' : Found) (l l' v v' : List ℕ)
    → Noted hit sum s before entry r (lent l v) → Noted hit sum s before entry r' (lent l' v') → (r ≡ r') × (l ≡ l') × (v ≡ v')
no_second_note hit sum s before entry r r' l l' v v' a b =
    let lists = both_lists (a.lists ∙ sym b.lists) in
    (a.counts ∙ sym b.counts, lists.0, lists.1)

-- what one window adds to the counts
pub tried_one : (b : Bool) (sum : ℕ) (r : Found) → (noted b sum r).tried ≡ r.tried + 1
unfolding noted
tried_one true sum r = refl
tried_one false sum r = refl

pub order_one : (b : Bool) (sum : ℕ) (r : Found) → r.total ≤ r.tried → (noted b sum r).total ≤ (noted b sum r).tried
unfolding noted
order_one true sum r h = omega arith
order_one false sum r h = omega arith
