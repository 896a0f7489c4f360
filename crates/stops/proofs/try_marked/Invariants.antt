-- `stops::try_marked` meets its contract: it goes down the marked points, and tries their windows. Assumes nothing.
use mathlib.Core.Path.{◌≡◌}
use Prim.Native.Nat.{ℕ, ◌+◌, ◌-◌, ◌%◌, ◌^◌, ◌≤◌}
use Rattle.fit.specs.Rule.{all_fit}
use Rattle.fit.specs.Spans.{rule_in}
use Rattle.fit.specs.Answer.{sought_by}
use Rattle.fit.proofs.Laws.Tryings.{Trying}
use Rattle.marks.specs.Marks.{bit, Marks}
use Rattle.stops.specs.Passing.{windows_at}
use Rattle.noting.specs.Lists.{lent_in, Same}
use Rattle.stops.proofs.try_marked.Given as goal

abbrev pub invariant-loop-left : goal.invariant-loop-left
invariant-loop-left l =
    -- all marks that are left are below point i
    (i : ℕ) × ((i ≤ l.spans.m) × (l.left ≡ l.mask % 2 ^ i) × (l.found.total ≤ l.found.tried) × (l.found.tried + i ≤ l.q + 1)
    × (Marks l.spans.m (λ (k : ℕ). all_fit (rule_in l.spans.rows).fit l.recording (l.q - k) l.spans.m) l.mask
    → Trying (sought_by (rule_in l.spans.rows) l.spans.m l.gamma l.recording) (windows_at (bit l.mask) l.q l.spans.m) (windows_at (bit l.mask) l.q i) (l.q + 1 - i)
    (lent_in l.initial.lists) (lent_in l.lists) l.initial.found l.found) × Same l.initial.lists l.lists)

abbrev pub decreases-loop-left : goal.decreases-loop-left
decreases-loop-left l = l.left
