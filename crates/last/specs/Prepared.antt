-- What last's walk goes by: it is built once per search. Assumes nothing.
use Rattle.std.specs.Prelude.{ℕ, ◌≡◌, List, length}
use Rattle.fit.specs.Place.{d_of}
use Rattle.fit.specs.Spans.{rule_in, spans_of}
use Rattle.jumps.specs.Jumps.{last_jump, seen_jump}
use Rattle.tables.specs.Holding.{Holds}
use Rattle.last.specs.declared.walk.Prepared.{Prepared}

-- the spans of the profile, and for each reading its last-reading jump and its jump after a tried window
pub record GoesBy (delta gamma : ℕ) (x : List ℕ) (p : Prepared) : Type 0 where
  pub spans : p.spans.rows ≡ spans_of (d_of delta gamma) x
  pub points : p.spans.m ≡ length x
  pub table : Holds (last_jump (rule_in p.spans.rows).fit (length x)) 256 256 p.table
  pub seen : Holds (seen_jump (rule_in p.spans.rows).fit (length x)) 256 256 p.seen
