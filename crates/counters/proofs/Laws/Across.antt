-- Counters over several words: the law of one word, word by word, is the law of all. Over any width, any number of counters to a word and
-- any number of words. Assumes nothing.
use mathlib.Core.Path.{◌≡◌, refl, sym, ap, ap₂, ◌∙◌, subst}
use mathlib.Core.Logic.{◌↔◌}
use mathlib.Core.List.{List, [], ◌∷◌}
use Prim.Native.Nat.{ℕ, zero, suc, ◌+◌, ◌-◌, ◌*◌, ◌/◌, ◌%◌, ◌^◌, ◌≤◌, ◌<◌}
use native.Mathlib.Nat.{add-zero, add-suc, sub-zero, zero-mul, zero-add, div-add-mod', mod-lt, div-lt_iff_lt-mul}
use native.Mathlib.Omega.{arith}
use lib.Arith.{digits_div, digits_mod}
use lib.ListN.{length, get_or}
use Rattle.counters.specs.Word.{counter, Laid}
use Rattle.counters.specs.Sums.{Stands, Agrees, moved, stepped, grown, Turned, costs}
use Rattle.counters.specs.Words.{across, LaidAcross, AgreesAcross, TurnedAcross}
use Rattle.counters.proofs.Laws.Laying.{laid_same}
use Rattle.counters.proofs.Laws.Fields.{counter_lt}
use Rattle.counters.proofs.Laws.Growth.{below, grown_stands}
use Rattle.counters.proofs.Laws.Ends.{moved_first, moved_next, stepped_is, entering_first, entering_next, costs_is}

module _ (l n : ℕ) where
  -- which counter of which word it is
  pub across_is : (ws : List ℕ) (i : ℕ) → across l n ws i ≡ counter l (get_or ws (i / n) 0) (i % n)
  unfolding across
  across_is ws i = refl

  -- it is a counter
  pub across_lt : (ws : List ℕ) (i : ℕ) → across l n ws i < 2 ^ l
  unfolding across
  across_lt ws i = counter_lt l (get_or ws (i / n) 0) (i % n)

  -- counter t of word j is counter j * n + t of the words
  pub across_at : (ws : List ℕ) (j t : ℕ) → t < n → across l n ws (j * n + t) ≡ counter l (get_or ws j 0) t
  unfolding across
  across_at ws j t h = ap₂ (λ (q r : ℕ). counter l (get_or ws q 0) r) (digits_div j h) (digits_mod j h)

  -- what holds of each counter of each word holds of every counter of the words
  pub each_across : 1 ≤ n → (P : ℕ → ℕ → Type 0) (ws : List ℕ) → ((j t : ℕ) → j < length ws → t < n → P (j * n + t) (counter l (get_or ws j 0) t))
      → (i : ℕ) → i < length ws * n → P i (across l n ws i)
  unfolding across
  each_across some P ws h i k =
      subst (λ (q : ℕ). P q (counter l (get_or ws (i / n) 0) (i % n))) (div-add-mod' i n) (h (i / n) (i % n) ((div-lt_iff_lt-mul some).1 k) (mod-lt i some))

  -- words that are laid one by one are laid together
  pub laid_across : 1 ≤ n → (ws : List ℕ) (f : ℕ → ℕ) → ((j : ℕ) → j < length ws → Laid l n (get_or ws j 0) (λ t. f (j * n + t))) → LaidAcross l n ws f
  laid_across some ws f h = record {
    whole = record { bound = λ j k. (h j k).bound };
    each = each_across some (λ i c. c ≡ f i) ws (λ j t k r. (h j k).each t r);
  }

-- moving the counters of word j, with what stands before them entering, is moving them all
moved_within : (l n c : ℕ) (ws : List ℕ) (j t : ℕ) → t < n
    → moved (moved c (across l n ws) (j * n)) (counter l (get_or ws j 0)) t ≡ moved c (across l n ws) (j * n + t)
moved_within l n c ws j zero h =
    moved_first (moved c (across l n ws) (j * n)) (counter l (get_or ws j 0)) ∙ sym (ap (moved c (across l n ws)) (add-zero (j * n)))
moved_within l n c ws j (suc t) h =
    moved_next (moved c (across l n ws) (j * n)) (counter l (get_or ws j 0)) t
    ∙ sym (across_at l n ws j t (omega arith))
    ∙ sym (moved_next c (across l n ws) (j * n + t))
    ∙ sym (ap (moved c (across l n ws)) (add-suc (j * n) t))

-- one counter of b low bits, where c enters by being added: nothing that grows by c and a cost is c that grows by the cost
folded_in : (b g c : ℕ) (adds f : ℕ → ℕ) → c < 2 ^ b → c ≤ adds 0 → (i : ℕ) → grown b (moved 0 f i) (adds i) ≡ grown b (moved c f i) (costs c adds i)
folded_in b g c adds f cl first zero =
    rw (moved_first 0 f, moved_first c f, costs_is c adds 0, entering_first c)
    (below b g 0 (adds 0) (omega arith) ∙ omega arith ∙ sym (below b g c (adds 0 - c) cl))
folded_in b g c adds f cl first (suc i) =
    rw (moved_next 0 f i, moved_next c f i, costs_is c adds (suc i), entering_next c (suc i) (omega arith), sub-zero)

module _ (b g n : ℕ) (some : 1 ≤ n) where
  pub agrees_across : (ws : List ℕ) (s : ℕ → ℕ) → ((j : ℕ) → j < length ws → Agrees b g n (get_or ws j 0) (λ t. s (j * n + t))) → AgreesAcross b g n ws s
  agrees_across ws s h = record {
    whole = record { bound = λ j k. (h j k).bound };
    each = each_across (suc b) n some (λ i c. Stands b g c (s i)) ws (λ j t k r. (h j k).each t r);
  }

  -- ---- one reading: words that hold what they should agree with the sums again
  module _ (ws : List ℕ) (c : ℕ) (cost : ℕ → ℕ) (rs : List ℕ) (long : length rs ≡ length ws) (cl : c < 2 ^ suc b)
      (laid : LaidAcross (suc b) n rs (λ i. grown b (moved c (across (suc b) n ws) i) (cost i))) where
    laid_agrees : (p : ℕ) (s : ℕ → ℕ) → Stands b g c p → AgreesAcross b g n ws s → AgreesAcross b g n rs (stepped cost p s)
    laid_agrees p s cs a = record {
      whole = laid.whole;
      each = λ i h. rw (laid.each i h)
          (grown_stands b g (across (suc b) n ws) c cost p s (length ws * n) (across_lt (suc b) n ws) cl cs a.each i (rw (← long) h));
    }

    laid_turned : TurnedAcross b g n ws c cost rs
    laid_turned = record { long = long; laid = laid; agrees = laid_agrees }

  -- each word turned, with the counter entering it that left the word before, is all of them turned
  pub all_turned : (ws : List ℕ) (c : ℕ) (adds rs : List ℕ) → length rs ≡ length ws → c < 2 ^ suc b
      → ((j : ℕ) → j < length ws → Turned b g n (get_or ws j 0) (moved c (across (suc b) n ws) (j * n)) (counter (suc b) (get_or adds j 0)) (get_or rs j 0))
      → TurnedAcross b g n ws c (across (suc b) n adds) rs
  all_turned ws c adds rs long cl each =
      laid_turned ws c (across (suc b) n adds) rs long cl
      (laid_across (suc b) n some rs _
      (λ j h. laid_same (suc b) (each j (rw (← long) h)).laid
      (λ t k. ap₂ (λ (x y : ℕ). grown b x y) (moved_within (suc b) n c ws j t k) (sym (across_at (suc b) n adds j t k)))))

  -- and so where the entering counter c is added: nothing comes in at the first word, whose additions hold c
  pub turned_folded : (ws : List ℕ) (c : ℕ) (adds : ℕ → ℕ) (rs : List ℕ) → c < 2 ^ b → c ≤ adds 0 → TurnedAcross b g n ws 0 adds rs
      → TurnedAcross b g n ws c (costs c adds) rs
  turned_folded ws c adds rs cl first h =
      laid_turned ws c (costs c adds) rs h.long (omega arith)
      (record { whole = h.laid.whole; each = λ i l. h.laid.each i l ∙ folded_in b g c adds (across (suc b) n ws) cl first i })

  -- ---- a list of one: what is said of the words is what is said of the word
  module _ (w : ℕ) where
    -- its counters are those of the list
    one_counter : (t : ℕ) → t < n → across (suc b) n (w ∷ []) t ≡ counter (suc b) w t
    one_counter t h = ap (across (suc b) n (w ∷ [])) (sym (ap (λ (o : ℕ). o + t) (zero-mul n) ∙ zero-add t)) ∙ across_at (suc b) n (w ∷ []) 0 t h

    all_of_one : (t : ℕ) → t < n → t < 1 * n
    all_of_one t h = omega arith

    pub one_agrees : (s : ℕ → ℕ) → Agrees b g n w s ↔ AgreesAcross b g n (w ∷ []) s
    one_agrees s = (
      λ a. agrees_across (w ∷ []) s (only a),
      λ a. record { bound = a.whole.bound 0 (omega arith); each = λ t h. subst (λ (c : ℕ). Stands b g c (s t)) (one_counter t h) (a.each t (all_of_one t h)) },
    )
      where
        only : Agrees b g n w s → (j : ℕ) → j < 1 → Agrees b g n (get_or (w ∷ []) j 0) (λ t. s (j * n + t))
        only a zero h = record { bound = a.bound; each = λ t k. rw (zero-mul, zero-add) (a.each t k) }
        only a (suc j) h = absurd (omega arith)

  -- and so is its step: the law of one word says of it what the law of all words says of a list of one
  pub one_turned : (w c add r : ℕ) → c < 2 ^ suc b → Turned b g n w c (counter (suc b) add) r ↔ TurnedAcross b g n (w ∷ []) c (across (suc b) n (add ∷ [])) (r ∷ [])
  one_turned w c add r cl = (λ h. all_turned (w ∷ []) c (add ∷ []) (r ∷ []) refl cl (only h), λ h. record { laid = laid h; agrees = agrees h })
    where
      only : Turned b g n w c (counter (suc b) add) r → (j : ℕ) → j < 1
          → Turned b g n (get_or (w ∷ []) j 0) (moved c (across (suc b) n (w ∷ [])) (j * n)) (counter (suc b) (get_or (add ∷ []) j 0)) (get_or (r ∷ []) j 0)
      only h zero k = rw (zero-mul, moved_first c (across (suc b) n (w ∷ []))) h
      only h (suc j) k = absurd (omega arith)

      moved_one : (t : ℕ) → t < n → moved c (across (suc b) n (w ∷ [])) t ≡ moved c (counter (suc b) w) t
      moved_one zero k = moved_first c (across (suc b) n (w ∷ [])) ∙ sym (moved_first c (counter (suc b) w))
      moved_one (suc t) k =
          moved_next c (across (suc b) n (w ∷ [])) t ∙ one_counter w t (omega arith) ∙ sym (moved_next c (counter (suc b) w) t)

      laid : TurnedAcross b g n (w ∷ []) c (across (suc b) n (add ∷ [])) (r ∷ []) → Laid (suc b) n r (λ i. grown b (moved c (counter (suc b) w) i) (counter (suc b) add i))
      laid h = record {
        bound = h.laid.whole.bound 0 (omega arith);
        each = λ t k. sym (one_counter r t k) ∙ h.laid.each t (all_of_one r t k) ∙ ap₂ (λ (x y : ℕ). grown b x y) (moved_one t k) (one_counter add t k);
      }

      agrees : TurnedAcross b g n (w ∷ []) c (across (suc b) n (add ∷ [])) (r ∷ []) → (p : ℕ) (s : ℕ → ℕ) → Stands b g c p → Agrees b g n w s
          → Agrees b g n r (stepped (counter (suc b) add) p s)
      agrees h p s cs a =
          let after = (one_agrees r (stepped (across (suc b) n (add ∷ [])) p s)).1 (h.agrees p s cs ((one_agrees w s).0 a)) in
          record { bound = after.bound; each = λ t k. subst (Stands b g (counter (suc b) r t)) (sum_one t k) (after.each t k) }
        where
          sum_one : (t : ℕ) → t < n → stepped (across (suc b) n (add ∷ [])) p s t ≡ stepped (counter (suc b) add) p s t
          sum_one t k =
              stepped_is (across (suc b) n (add ∷ [])) p s t
              ∙ ap (λ (x : ℕ). moved p s t + x) (one_counter add t k)
              ∙ sym (stepped_is (counter (suc b) add) p s t)
