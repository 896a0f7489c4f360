-- `compile` meets its contract: refused, or the spans of the profile by the smaller tolerance. Assumes nothing.
use Rattle.limits.proofs.Laws.Openings.{posed, may_compile}
use Rattle.questions.proofs.Laws.Replies.{compiled}
use Rattle.questions.proofs.compile.Goals as goal

pub spans_of-requires : goal.spans_of-requires
spans_of-requires c = let p = posed _ _ _ c.in_ok-checked.ensures in (may_compile _ _ _ p.ok p.carries c.d-d.ensures).1

pub returns : goal.returns
returns c =
    let asked = c.in_ok-checked.ensures in
    let made = c.spans_of.ensures in
    let of = compiled _ _ _ asked c.d-d.ensures made.rows made.points in
    (asked.0, record { rows = of.0; points = of.1 })
