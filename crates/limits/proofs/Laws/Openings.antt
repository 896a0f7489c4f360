-- What a question and a search know once their input is checked and not refused. Assumes nothing.
use Rattle.std.proofs.Common.{ℕ, ◌≡◌, ◌≤◌, List, ap, ◌∙◌, arith}
use Rattle.std.specs.Prelude.{Result}
use Rattle.fit.specs.Place.{d_of}
use Rattle.fit.specs.Refusal.{max_points, max_delta, question_refusal, search_refusal, Asked, Accepted}
use Rattle.fit.specs.Answer.{begun}
use Rattle.fit.specs.Refused.{refusal_of, Gives}
use Rattle.fit.specs.declared.answer.Search.{Search}
use Rattle.fit.specs.declared.refusal.Refusal.{Refusal}
use Rattle.limits.specs.Made.{Carries}
use Rattle.limits.specs.declared.checked.Checked.{Checked}
use Rattle.fit.proofs.Laws.Refusals.{asked_accepted, accepted}
use Rattle.fit.proofs.Laws.Refused.{refusal_given}
use Rattle.limits.proofs.Laws.Constructed.{told_d}

-- a question
pub record Posed (delta gamma : ℕ) (x : List ℕ) (q : Checked) : Type 0 where
  pub ok : Asked delta gamma x
  pub carries : Carries delta gamma x q

pub posed : (delta gamma : ℕ) (x : List ℕ) {q : Checked} → (question_refusal delta gamma x ≡ 0) × Carries delta gamma x q → Posed delta gamma x q
posed delta gamma x e = record { ok = asked_accepted delta gamma x e.0; carries = e.1 }

-- a search
pub record Passed (delta gamma : ℕ) (x y : List ℕ) (q : Checked) : Type 0 where
  pub ok : Accepted delta gamma x y
  pub carries : Carries delta gamma x q

pub passed : (delta gamma : ℕ) (x y : List ℕ) {q : Checked} → (search_refusal delta gamma x y ≡ 0) × Carries delta gamma x q → Passed delta gamma x y q
passed delta gamma x y e = record { ok = accepted delta gamma x y e.0; carries = e.1 }

-- a search that has begun: its number is that of its checked input
pub begins : (delta gamma : ℕ) (x y : List ℕ) (q : Result Checked Refusal) {r : Search} → Gives (search_refusal delta gamma x y) (Carries delta gamma x) q
    → r ≡ begun (refusal_of q) → r ≡ begun (search_refusal delta gamma x y)
begins delta gamma x y q a b = b ∙ ap begun (refusal_given _ (Carries delta gamma x) q a)

-- a search, which has begun
pub record Underway (delta gamma : ℕ) (x y : List ℕ) (q : Checked) (r : Search) : Type 0 where
  pub ok : Accepted delta gamma x y
  pub carries : Carries delta gamma x q
  pub none : r ≡ begun 0

pub underway : (delta gamma : ℕ) (x y : List ℕ) {q : Checked} {r : Search} → (search_refusal delta gamma x y ≡ 0) × Carries delta gamma x q
    → r ≡ begun (search_refusal delta gamma x y) → Underway delta gamma x y q r
underway delta gamma x y e b =
    let past = passed delta gamma x y e in
    record { ok = past.ok; carries = past.carries; none = b ∙ ap begun e.0 }

-- the profile of either may be compiled
pub may_compile : (delta gamma : ℕ) (x : List ℕ) {q : Checked} {d : ℕ} → Asked delta gamma x → Carries delta gamma x q → d ≡ d_of q.tolerance.delta q.tolerance.gamma
    → (q.profile.m ≤ max_points) × (d ≤ max_delta)
may_compile delta gamma x ok c small = (omega (arith, c.profile.m_is, ok.few), omega (arith, told_d delta gamma x c small, ok.delta_small))
