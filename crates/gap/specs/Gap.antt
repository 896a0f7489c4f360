-- What the gap search and the chain that it can show are refused by, and what they answer (document 02, #109). Assumes nothing.
use Rattle.std.specs.Prelude.{ℕ, zero, suc, not, List, [], ◌∷◌, ◌++◌, length, replicate, ltb}
use Rattle.fit.specs.Chain.{Reason, first_reason}
use Rattle.fit.specs.Refusal.{max_points, many_readings, question_reasons}
use Rattle.fit.specs.Answer.{Lent, Answer}
use Rattle.fit.specs.declared.answer.Search.{Search}
use Rattle.chains.specs.Chains.{near_rule}
use Rattle.chains.specs.Ends.{is_end_by, ends_of}
use Rattle.gap.specs.declared.answer.Chain.{Chain}

-- "a gap search with alpha 0 to 8"
abbrev pub max_alpha : ℕ
max_alpha = 8

-- "9 for alpha > 8"
abbrev pub wide_gap : ℕ → Reason
wide_gap alpha = record { number = 9; applies = ltb max_alpha alpha }

-- the number of that reason alone, or 0
unfoldable pub of_alpha : ℕ → ℕ
of_alpha alpha = first_reason (wide_gap alpha ∷ [])

-- the reasons of a gap search: those of every question, 9 "directly after 2", and 3
abbrev pub gap_reasons : ℕ → ℕ → ℕ → List ℕ → List ℕ → List Reason
gap_reasons delta gamma alpha x y = question_reasons delta gamma x ++ (wide_gap alpha ∷ many_readings y ∷ [])

unfoldable pub gap_refusal : ℕ → ℕ → ℕ → List ℕ → List ℕ → ℕ
gap_refusal delta gamma alpha x y = first_reason (gap_reasons delta gamma alpha x y)

-- "6 for an end without a chain"
abbrev pub no_chain : ℕ → ℕ → ℕ → List ℕ → List ℕ → ℕ → Reason
no_chain delta gamma alpha x y e = record { number = 6; applies = not (is_end_by (near_rule delta gamma x) (length x) gamma alpha y e) }

-- the reasons of the chain for one end: those of the search, and 6 "last"
abbrev pub chain_reasons : ℕ → ℕ → ℕ → List ℕ → List ℕ → ℕ → List Reason
chain_reasons delta gamma alpha x y e = gap_reasons delta gamma alpha x y ++ (no_chain delta gamma alpha x y e ∷ [])

unfoldable pub chain_refusal : ℕ → ℕ → ℕ → List ℕ → List ℕ → ℕ → ℕ
chain_refusal delta gamma alpha x y e = first_reason (chain_reasons delta gamma alpha x y e)

-- the contract of the search: the ends are what is sought, and "windows tried is 0"; "Total, least sum and lent lists follow the rules of the
-- ordinary search"
abbrev pub GapAnswers : ℕ → ℕ → ℕ → List ℕ → List ℕ → Lent → Search → Lent → Type 0
GapAnswers delta gamma alpha x y entry r final = Answer (gap_refusal delta gamma alpha x y) (ends_of delta gamma alpha x y) 0 entry r final

-- the whole answer about one end, by the refusal's number: the chain's positions; or the number, and "all 0 on refusal"
unfoldable pub chain_answer : ℕ → List ℕ → Chain
chain_answer zero positions = record { refusal = 0; positions = positions }
chain_answer (suc num) positions = record { refusal = suc num; positions = replicate max_points 0 }
