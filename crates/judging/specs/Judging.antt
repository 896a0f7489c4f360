-- Why is it no place? "a public question exposes it for one s" (document 02, #106): the window check's answer. Assumes nothing.
use Rattle.std.specs.Prelude.{Result, Ok, Err, ℕ, zero, suc, ◌+◌, List, [], ◌∷◌, ◌++◌, length, ltb}
use Rattle.fit.specs.Chain.{Reason, first_reason}
use Rattle.fit.specs.Refusal.{search_reasons}
use Rattle.fit.specs.Verdict.{Told, told_of}
use Rattle.fit.specs.Refused.{number_of}
use Rattle.fit.specs.declared.refusal.Refusal.{Refusal}
use Rattle.fit.specs.declared.verdict.Verdict.{Verdict}
use Rattle.judging.specs.declared.FlatVerdict.{FlatVerdict}

-- "6 is also given for an s that has no window": "A window at s is y[s]..y[s+m-1], with s+m at most n"
abbrev pub no_window : ℕ → ℕ → ℕ → Reason
no_window m n s = record { number = 6; applies = ltb n (s + m) }

-- the number of that reason alone, or 0
unfoldable pub of_window : ℕ → ℕ → ℕ → ℕ
of_window m n s = first_reason (no_window m n s ∷ [])

-- the reasons of the question: those of every search, and 6 "after 3"
abbrev pub check_reasons : ℕ → ℕ → List ℕ → List ℕ → ℕ → List Reason
check_reasons delta gamma x y s = search_reasons delta gamma x y ++ (no_window (length x) (length y) s ∷ [])

unfoldable pub check_refusal : ℕ → ℕ → List ℕ → List ℕ → ℕ → ℕ
check_refusal delta gamma x y s = first_reason (check_reasons delta gamma x y s)

-- a refusal's number and a verdict in numbers: the verdict by the number and the values of its case
abbrev pub told_by : ℕ → Told → FlatVerdict
told_by num t = record { refusal = num; kind = t.kind; point = t.point; sum = t.sum }

-- an answer in numbers: the verdict; refused, the number of the refusal, and zeros
abbrev pub told_all : Result Verdict Refusal → FlatVerdict
told_all (Ok v) = told_by 0 (told_of v)
told_all (Err e) = record { refusal = number_of e; kind = 0; point = 0; sum = 0 }

-- the whole answer, by the refusal's number: the verdict; or the number, and zeros
unfoldable pub check_answer : ℕ → Told → FlatVerdict
check_answer zero t = record { refusal = 0; kind = t.kind; point = t.point; sum = t.sum }
check_answer (suc num) t = record { refusal = suc num; kind = 0; point = 0; sum = 0 }
