-- `stops::settle` meets its contract: the windows that fit are tried, a place is among them, and all are counted. Assumes nothing.
use mathlib.Core.Path.{sym, ap}
use Prim.Native.Nat.{ℕ, ◌+◌}
use native.Mathlib.Omega.{arith}
use Rattle.fit.specs.Spans.{rule_in}
use Rattle.fit.proofs.Laws.Rules.{by_all}
use Rattle.fit.proofs.Laws.Filters.{kept_tried}
use Rattle.stops.proofs.Laws.Probing.{those_marked, probe_count}
use Rattle.stops.proofs.settle.Goals as goal

pub returns-clause-tried : goal.returns-clause-tried
returns-clause-tried c = let given = c.args in
    let rule = rule_in given.spans.now.rows in
    λ tables worth.
    let marks = (rw c.requires.le_m.1 at (c.fitting-kept.ensures.by_index rule.fit)) tables.marks worth in
    kept_tried _ _ (by_all rule given.spans.now.m given.gamma given.recording.now) _ _ {r = c.try_marked-found.result}
    (ap (λ (n : ℕ). given.before.tried + n)
    (sym (probe_count rule.fit given.spans.now.m given.recording.now given.q _ _ _ tables (c.count_at.ensures.0, c.count_at.ensures.1))))
    c.count_all.ensures
    (rw (those_marked rule.fit given.spans.now.m given.recording.now given.q _ given.spans.now.m (omega arith) (omega arith) marks)
    (c.try_marked-found.ensures.tried marks))
