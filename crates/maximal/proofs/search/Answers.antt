-- `maximal::search` meets its contract: refused as its input is, or what the walk answers over the profile's spans. Assumes nothing.
use Rattle.std.proofs.Common.{rules}
use mathlib.Core.Path.{ap, ◌∙◌}
use Prim.Native.Nat.{ℕ}
use lib.ListN.{length}
use Rattle.fit.proofs.Laws.Compiled.{compiled_answer_lem}
use Rattle.fit.proofs.Laws.Refused.{handed_search}
use Rattle.limits.proofs.Laws.Constructed.{told_d, told_spans}
use Rattle.limits.proofs.Laws.Openings.{passed, may_compile}
use Rattle.leaping.proofs.Laws.Prepared.{walkable}
use Rattle.leaping.specs.Walk.{maximal_walk}
use Rattle.tables.proofs.Laws.Holdings.{usable}
use Rattle.maximal.proofs.search.Goals as goal

pub returns-in_err-checked : goal.returns-in_err-checked
returns-in_err-checked c = handed_search _ _ _ _ _ _ c.from_residual.ensures.1 c.in_err-checked.ensures

pub spans_of-spans-requires : goal.spans_of-spans-requires
spans_of-spans-requires c =
    let at = passed _ _ _ _ c.in_ok-checked.ensures in
    (may_compile _ _ _ at.ok.asked at.carries c.d-d.ensures).1

pub invariant_of-points : goal.invariant_of-points
invariant_of-points c =
    let at = passed _ _ _ _ c.in_ok-checked.ensures in
    record { usable = usable _ _ _ _ (told_d _ _ _ at.carries c.d-d.ensures) at.ok.asked }

pub walk-found-requires : goal.walk-found-requires
walk-found-requires c =
    let at = passed _ _ _ _ c.in_ok-checked.ensures in
    let made = c.spans_of-spans.ensures in
    let points = made.points ∙ at.carries.profile.m_is in
    let compared = c.compared_of-compared.ensures in
    record {
      walkable = walkable _ _ _ _ _ _ _ _ _ at.ok (told_d _ _ _ at.carries c.d-d.ensures) (told_spans _ _ _ at.carries c.d-d.ensures made.rows)
          (rw points at c.next_table-next.ensures) compared.0 compared.1;
      same_points = points;
    }

pub returns : goal.returns
returns c =
    let at = passed _ _ _ _ c.in_ok-checked.ensures in
    let made = c.spans_of-spans.ensures in
    let answer = compiled_answer_lem c.args.delta c.args.gamma c.args.points.now c.args.recording.now c.spans_of-spans.result.rows (told_spans _ _ _ at.carries c.d-d.ensures made.rows) at.ok _ _
    (ap (λ (k : ℕ). length (maximal_walk k c.args.points.now c.args.recording.now)) (told_d _ _ _ at.carries c.d-d.ensures)) c.walk-found.ensures.answer in
    search rules
