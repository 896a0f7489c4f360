-- What the scores of 64 windows tell. Assumes nothing.
use Rattle.std.specs.Prelude.{ℕ, ◌+◌, ◌-◌, List, get_or, leb}
use Rattle.fit.specs.Answer.{Sought}

-- of the 64 windows from s on, those are places whose score is at most gamma, and it is their sum
abbrev pub told_by : List ℕ → ℕ → ℕ → Sought
told_by scores s gamma = record { count = s + 64; place = λ w. leb (get_or scores (w - s) 0) gamma; sum = λ w. get_or scores (w - s) 0 }
