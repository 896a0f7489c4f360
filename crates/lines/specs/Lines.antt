-- The lines that the program writes, as bytes. Assumes nothing.
use Rattle.std.specs.Prelude.{ℕ, zero, suc, List, [], ◌∷◌, ◌++◌}
use Rattle.fit.specs.declared.answer.Search.{Search}
use Rattle.page.specs.Put.{decimal}

-- a space, the end of a line, and `refused` between spaces
abbrev pub space : List ℕ
space = 32 ∷ []

abbrev pub line_end : List ℕ
line_end = 10 ∷ []

abbrev pub refused_word : List ℕ
refused_word = 32 ∷ 114 ∷ 101 ∷ 102 ∷ 117 ∷ 115 ∷ 101 ∷ 100 ∷ 32 ∷ []

-- a number, and the line ends
abbrev pub ended : ℕ → List ℕ
ended x = decimal x ++ line_end

-- "name, total, windows tried"
abbrev pub counts_line : List ℕ → ℕ → ℕ → List ℕ
counts_line name total tried = name ++ space ++ decimal total ++ space ++ ended tried

-- "name, `refused`, number"
abbrev pub refused_line : List ℕ → ℕ → List ℕ
refused_line name num = name ++ refused_word ++ ended num

-- "a line per searcher", by the refusal's number
unfoldable pub line_by : ℕ → List ℕ → Search → List ℕ
line_by zero name r = counts_line name r.total r.tried
line_by (suc num) name r = refused_line name (suc num)

abbrev pub line_of : List ℕ → Search → List ℕ
line_of name r = line_by r.refusal name r

-- "all places found by plain, one to a line"
unfoldable pub lines_of : List ℕ → List ℕ
lines_of [] = []
lines_of (p ∷ ps) = ended p ++ lines_of ps
