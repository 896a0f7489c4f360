-- `sieve::sifted` meets its contract: pass by pass, until no window is left or every point was looked at. Assumes nothing.
use Prim.Native.Nat.{◌+◌}
use mathlib.Core.Path.{◌≡◌}
use mathlib.Core.Bool.{true}
use Rattle.fit.specs.Listing.{Entries}
use Rattle.fit.specs.Spans.{rule_in}
use Rattle.sieve.specs.Sieve.{mark, some, passes}
use Rattle.sieve.proofs.sifted.Given as goal

abbrev pub invariant-loop-i : goal.invariant-loop-i
invariant-loop-i l =
    Entries (λ j. mark (passes (rule_in l.spans.rows).fit l.spans.m l.recording (l.s + j) l.i)) 64 l.marks
    × (some (λ j. passes (rule_in l.spans.rows).fit l.spans.m l.recording (l.s + j) l.i) 64 ≡ true)
