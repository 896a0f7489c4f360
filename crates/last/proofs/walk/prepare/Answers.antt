-- `last::prepare` meets its contract: refused as its checked input is, or what the walk goes by. Assumes nothing.
use mathlib.Core.Path.{◌∙◌}
use native.Mathlib.Omega.{arith}
use Rattle.limits.proofs.Laws.Constructed.{told_spans}
use Rattle.limits.proofs.Laws.Openings.{passed, may_compile}
use Rattle.last.proofs.Laws.Ordinary.{prepared_made}
use Rattle.last.proofs.walk.prepare.Goals as goal

pub spans_of-spans-requires : goal.spans_of-spans-requires
spans_of-spans-requires c =
    let at = passed _ _ _ _ c.in_ok-checked.ensures in
    (may_compile _ _ _ at.ok.asked at.carries c.d-d.ensures).1

pub seen_table-seen-requires : goal.seen_table-seen-requires
seen_table-seen-requires c =
    let at = passed _ _ _ _ c.in_ok-checked.ensures in
    omega (arith, c.spans_of-spans.ensures.points, at.carries.profile.m_is, at.ok.asked.some)

pub last_table-table-requires : goal.last_table-table-requires
last_table-table-requires c =
    let at = passed _ _ _ _ c.in_ok-checked.ensures in
    (c.seen_table-seen.ensures, omega (arith, c.spans_of-spans.ensures.points, at.carries.profile.m_is, at.ok.asked.some))

pub returns : goal.returns
returns c =
    let at = passed _ _ _ _ c.in_ok-checked.ensures in
    let made = c.spans_of-spans.ensures in (
      c.in_ok-checked.ensures.0,
      prepared_made _ _ _ _ (told_spans _ _ _ at.carries c.d-d.ensures made.rows) (made.points ∙ at.carries.profile.m_is)
          c.last_table-table.ensures c.seen_table-seen.ensures,
    )
