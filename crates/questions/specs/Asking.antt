-- What a question answers. Assumes nothing.
use Rattle.std.specs.Prelude.{ℕ, zero, suc, ◌<◌, ◌||◌, List, [], ◌∷◌, ◌++◌, ◌⊎◌, ◌≡◌, length, eqb, ltb, Result, Ok, Err}
use Rattle.fit.specs.Chain.{Reason, first_reason}
use Rattle.fit.specs.Refusal.{question_reasons}
use Rattle.fit.specs.Refused.{number_of}
use Rattle.fit.specs.Spans.{spans_of}
use Rattle.fit.specs.declared.refusal.Refusal.{Refusal}
use Rattle.spans.specs.declared.Spans.{Spans}
use Rattle.questions.specs.declared.Jump.{Jump}

-- by the refusal's number: the jump; or the number "with any jump 0"
unfoldable pub jump_answer : ℕ → ℕ → Jump
jump_answer zero k = record { refusal = 0; jump = k }
jump_answer (suc num) k = record { refusal = suc num; jump = 0 }

-- an answer in numbers
abbrev pub jump_of : Result ℕ Refusal → Jump
jump_of (Ok k) = record { refusal = 0; jump = k }
jump_of (Err e) = record { refusal = number_of e; jump = 0 }

-- what the questions about one reading go by: the spans of the points x, which are near by d
pub record Compiles (d : ℕ) (x : List ℕ) (spans : Spans) : Type 0 where
  pub rows : spans.rows ≡ spans_of d x
  pub points : spans.m ≡ length x

-- No. 6: "point number is 0 or above m"
abbrev pub no_point : ℕ → ℕ → Reason
no_point m p = record { number = 6; applies = eqb p 0 || ltb m p }

abbrev pub BadPoint : ℕ → ℕ → Type 0
BadPoint m p = (p ≡ 0) ⊎ (m < p)

unfoldable pub of_point : ℕ → ℕ → ℕ
of_point m p = first_reason (no_point m p ∷ [])

-- the reasons of the mismatch question: those of every question, then 6
abbrev pub mismatch_reasons : ℕ → ℕ → List ℕ → ℕ → List Reason
mismatch_reasons delta gamma x p = question_reasons delta gamma x ++ (no_point (length x) p ∷ [])

unfoldable pub mismatch_refusal : ℕ → ℕ → List ℕ → ℕ → ℕ
mismatch_refusal delta gamma x p = first_reason (mismatch_reasons delta gamma x p)
