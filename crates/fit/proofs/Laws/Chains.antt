-- Laws of every chain of reasons: the number given is that of the first reason in the written order. They name no reason and no number, so
-- that a reason more is a link more. Assumes nothing.
use Prim.Native.Nat.{ℕ, zero, suc, ◌≤◌}
use mathlib.Core.Path.{◌≡◌, refl, sym, ap, ◌∙◌}
use mathlib.Core.Bool.{Bool, true, false, cond, ◌&&◌, ◌||◌}
use mathlib.Core.Logic.Iff
use mathlib.Core.Logic.{◌⊎◌, inl, inr, ⊎_elim, ◌↔◌}
use mathlib.Core.List.{List, [], ◌∷◌, ◌++◌, append-nil}
use native.Mathlib.Omega.{arith}
use lib.Dec.{eqb, leb}
use borrow.Author.Tests.{eqb-false, leb-true}
use Rattle.fit.specs.Chain.{Reason, first_reason, NoneApplies, FirstInOrder}
use Rattle.fit.specs.Refusal.{or_else}
use Rattle.fit.proofs.Laws.Bools.{and_left, and_right, not_both, is_false}

-- ---- the first of two numbers that is not 0
pub else_later : (num later : ℕ) → num ≡ 0 → or_else num later ≡ later
unfolding or_else
else_later num later e = rw e

pub else_given : (num later : ℕ) → (num ≡ 0 → ⊥) → or_else num later ≡ num
unfolding or_else
else_given zero later h = absurd (h refl)
else_given (suc num) later h = refl

-- ---- one link: its number where it applies, and what is written later where not
link_cases : (t : Bool) (num later k : ℕ) → cond t num later ≡ k → ((t ≡ true) × (num ≡ k)) ⊎ ((t ≡ false) × (later ≡ k))
link_cases true num later k e = inl (refl, e)
link_cases false num later k e = inr (refl, e)

link_given : (t : Bool) (num later : ℕ) → t ≡ true → cond t num later ≡ num
link_given t num later e = rw e

link_passed : (t : Bool) (num later : ℕ) → t ≡ false → cond t num later ≡ later
link_passed t num later e = rw e

-- ---- which numbers a chain has
abbrev pub has : ℕ → List Reason → Bool
has num [] = false
has num (reason ∷ later) = eqb num reason.number || has num later

has_neither : (a b : Bool) → (a || b) ≡ false → (a ≡ false) × (b ≡ false)
has_neither true b e = absurd (not_both refl e)
has_neither false b e = (refl, e)

module _ (num : ℕ) (reason : Reason) (later : List Reason) (other : has num (reason ∷ later) ≡ false) where
  other_number : reason.number ≡ num → ⊥
  other_number e = eqb-false num reason.number (has_neither (eqb num reason.number) (has num later) other).0 (sym e)

  not_later : has num later ≡ false
  not_later = (has_neither (eqb num reason.number) (has num later) other).1

-- a number that no reason has is not given
pub absent : (num : ℕ) (chain : List Reason) → 1 ≤ num → has num chain ≡ false → first_reason chain ≡ num → ⊥
absent num [] some other e = omega arith
absent num (reason ∷ later) some other e =
    ⊎_elim (λ h. other_number num reason later other h.1) (λ h. absent num later some (not_later num reason later other) h.1)
    (link_cases reason.applies reason.number (first_reason later) num e)

-- ---- what is written before a chain, and what is written after it
-- reasons that do not apply are passed
passed_by : (before chain : List Reason) → NoneApplies before → first_reason (before ++ chain) ≡ first_reason chain
passed_by [] chain none = refl
passed_by (reason ∷ before) chain none =
    link_passed reason.applies reason.number (first_reason (before ++ chain)) none.0 ∙ passed_by before chain none.1

-- a number that none of the reasons before has is given exactly where none of them applies and the chain gives it
pub behind : (before chain : List Reason) (num : ℕ) → has num before ≡ false
    → (first_reason (before ++ chain) ≡ num) ↔ (NoneApplies before × (first_reason chain ≡ num))
behind before chain num other = (there before other, λ given. passed_by before chain given.0 ∙ given.1)
  where
    there : (before : List Reason) → has num before ≡ false → first_reason (before ++ chain) ≡ num → NoneApplies before × (first_reason chain ≡ num)
    there [] other e = (tt, e)
    there (reason ∷ before) other e =
        ⊎_elim (λ h. absurd (other_number num reason before other h.1))
        (λ h. let more = there before (not_later num reason before other) h.1 in ((h.0, more.0), more.1))
        (link_cases reason.applies reason.number (first_reason (before ++ chain)) num e)

-- a number that none of the reasons after has is given exactly where the chain gives it
pub ahead : (chain after : List Reason) (num : ℕ) → 1 ≤ num → has num after ≡ false → (first_reason (chain ++ after) ≡ num) ↔ (first_reason chain ≡ num)
ahead [] after num some other = (λ e. absurd (absent num after some other e), λ e. absurd (omega arith))
ahead (reason ∷ chain) after num some other = same_later reason.applies (ahead chain after num some other)
  where
    same_later : (t : Bool) → ((first_reason (chain ++ after) ≡ num) ↔ (first_reason chain ≡ num))
        → (cond t reason.number (first_reason (chain ++ after)) ≡ num) ↔ (cond t reason.number (first_reason chain) ≡ num)
    same_later true f = Iff.rfl
    same_later false f = f

-- ---- each number exactly when
-- of a reason that is written first
pub first_exactly : (reason : Reason) (after : List Reason) → 1 ≤ reason.number → has reason.number after ≡ false
    → (first_reason (reason ∷ after) ≡ reason.number) ↔ (reason.applies ≡ true)
first_exactly reason after some other = (
  λ e. ⊎_elim (λ h. h.0) (λ h. absurd (absent reason.number after some other h.1))
      (link_cases reason.applies reason.number (first_reason after) reason.number e),
  link_given reason.applies reason.number (first_reason after),
)

-- 0, exactly where none applies
pub zero_exactly : (chain : List Reason) → has 0 chain ≡ false → (first_reason chain ≡ 0) ↔ NoneApplies chain
zero_exactly chain other =
    let all : (first_reason chain ≡ 0) ↔ (NoneApplies chain × (◌≡◌ {A = ℕ} 0 0)) = rw (append-nil chain) at (behind chain [] 0 other) in
    (λ e. (all.0 e).0, λ none. all.1 (none, refl))

-- any number: that of the first reason in the written order
pub in_order : (chain : List Reason) (num : ℕ) → 1 ≤ num → (first_reason chain ≡ num) ↔ FirstInOrder chain num
in_order chain num some = (there chain, back)
  where
    there : (chain : List Reason) → first_reason chain ≡ num → FirstInOrder chain num
    there [] e = absurd (omega arith)
    there (reason ∷ later) e =
        ⊎_elim (λ h. record { before = []; reason = reason; after = later; written = refl; none_before = tt; applies = h.0; number = h.1 })
        (λ h. let more = there later h.1 in
        record {
          before = reason ∷ more.before;
          reason = more.reason;
          after = more.after;
          written = ap (λ l. reason ∷ l) more.written;
          none_before = (h.0, more.none_before);
          applies = more.applies;
          number = more.number;
        })
        (link_cases reason.applies reason.number (first_reason later) num e)

    back : FirstInOrder chain num → first_reason chain ≡ num
    back f =
        ap first_reason f.written ∙ passed_by f.before (f.reason ∷ f.after) f.none_before
        ∙ link_given f.reason.applies f.reason.number (first_reason f.after) f.applies ∙ f.number

-- ---- how large a number can be that is given, where no number of the chain is larger
abbrev pub at_most : ℕ → List Reason → Bool
at_most most [] = true
at_most most (reason ∷ later) = leb reason.number most && at_most most later

pub given_small : (most : ℕ) (chain : List Reason) → at_most most chain ≡ true → first_reason chain ≤ most
given_small most [] small = omega arith
given_small most (reason ∷ later) small =
    let l = leb-true reason.number most (and_left (leb reason.number most) (at_most most later) small) in
    ⊎_elim (λ h. omega (arith, h.1)) (λ h. omega (arith, h.1, given_small most later (and_right (leb reason.number most) (at_most most later) small)))
    (link_cases reason.applies reason.number (first_reason later) (first_reason (reason ∷ later)) refl)

-- ---- two chains, as code joins them: the first one's number, or else the later one's
pub joined : (chain after : List Reason) → has 0 chain ≡ false → first_reason (chain ++ after) ≡ or_else (first_reason chain) (first_reason after)
joined [] after other = sym (else_later 0 (first_reason after) refl)
joined (reason ∷ chain) after other = same reason.applies (joined chain after (not_later 0 reason chain other))
  where
    same : (t : Bool) → first_reason (chain ++ after) ≡ or_else (first_reason chain) (first_reason after)
        → cond t reason.number (first_reason (chain ++ after)) ≡ or_else (cond t reason.number (first_reason chain)) (first_reason after)
    same true e = sym (else_given reason.number (first_reason after) (other_number 0 reason chain other))
    same false e = e

-- ---- that no reason applies, as facts
pub none_both : (chain after : List Reason) → NoneApplies (chain ++ after) ↔ (NoneApplies chain × NoneApplies after)
none_both [] after = (λ none. (tt, none), λ none. none.1)
none_both (reason ∷ chain) after = (
  λ none. let more = (none_both chain after).0 none.1 in ((none.0, more.0), more.1),
  λ none. (none.0.0, (none_both chain after).1 (none.0.1, none.1)),
)

spared : (t : Bool) {A : Type 0} → ((t ≡ true) ↔ A) → (t ≡ false) ↔ (A → ⊥)
spared t f = (λ e a. not_both (f.1 a) e, λ h. is_false t (λ e. h (f.0 e)))

pub one_spared : (reason : Reason) {A : Type 0} → ((reason.applies ≡ true) ↔ A) → NoneApplies (reason ∷ []) ↔ (A → ⊥)
one_spared reason f = (λ none. (spared reason.applies f).0 none.0, λ h. ((spared reason.applies f).1 h, tt))

pub more_spared : (reason : Reason) (later : List Reason) {A B : Type 0} → ((reason.applies ≡ true) ↔ A) → (NoneApplies later ↔ (B → ⊥))
    → NoneApplies (reason ∷ later) ↔ ((A ⊎ B) → ⊥)
more_spared reason later f g = (
  λ none. ⊎_elim ((spared reason.applies f).0 none.0) (g.0 none.1),
  λ h. ((spared reason.applies f).1 (λ a. h (inl a)), g.1 (λ b. h (inr b))),
)
