-- `packed::search` meets its contract: refused as its input is, or the scan by the masks and the table that were built, in as many words as needed.
use Rattle.std.proofs.Common.{rules}
use Rattle.fit.proofs.Laws.Refused.{handed_search}
use Rattle.packed.proofs.Laws.Answering.{opened, underway, may_lay_out, may_add, may_scan, answered}
use Rattle.packed.proofs.search.Goals as goal

pub returns-in_err-checked : goal.returns-in_err-checked
returns-in_err-checked c = handed_search _ _ _ _ _ _ c.from_residual.ensures.1 c.in_err-checked.ensures

pub lay_out-masks-requires : goal.lay_out-masks-requires
lay_out-masks-requires c =
    rw c.from.ensures (may_lay_out _ _ _ _ _ _ _ (opened _ _ _ _ c.in_ok-checked.ensures c.d-d.ensures c.g-g.ensures c.low_bits-b.ensures))

pub invariant_of-additions : goal.invariant_of-additions
invariant_of-additions c =
    let u = underway (opened _ _ _ _ c.in_ok-checked.ensures c.d-d.ensures c.g-g.ensures c.low_bits-b.ensures) c.from.ensures c.lay_out-masks.ensures c.div_ceil-used.ensures in
    let may = (may_add _ _ _ _ _ _ _ u.known _ u.laid _ u.used_is).0 in
    record { room = rw u.laid.g_is may.0; enters = rw u.laid.g_is may.1; some = may.2 }

pub tabulate-requires-clause-some : goal.tabulate-requires-clause-some
tabulate-requires-clause-some c =
    (opened _ _ _ _ c.in_ok-checked.ensures c.d-d.ensures c.g-g.ensures c.low_bits-b.ensures).ok.asked.some

pub tabulate-requires-clause-le_used : goal.tabulate-requires-clause-le_used
tabulate-requires-clause-le_used c =
    let u = underway (opened _ _ _ _ c.in_ok-checked.ensures c.d-d.ensures c.g-g.ensures c.low_bits-b.ensures) c.from.ensures c.lay_out-masks.ensures c.div_ceil-used.ensures in
    (may_add _ _ _ _ _ _ _ u.known _ u.laid _ u.used_is).1

pub invariant_of-scan : goal.invariant_of-scan
invariant_of-scan c =
    let u = underway (opened _ _ _ _ c.in_ok-checked.ensures c.d-d.ensures c.g-g.ensures c.low_bits-b.ensures) c.from.ensures c.lay_out-masks.ensures c.div_ceil-used.ensures in
    record { scannable = may_scan _ _ _ _ _ _ _ u.known _ u.laid _ u.used_is _ (rw u.laid.g_is at c.tabulate.ensures.tabled) }

pub returns : goal.returns
returns c =
    let u = underway (opened _ _ _ _ c.in_ok-checked.ensures c.d-d.ensures c.g-g.ensures c.low_bits-b.ensures) c.from.ensures c.lay_out-masks.ensures c.div_ceil-used.ensures in
    let answer = answered _ _ _ _ _ _ _ u.known _ u.laid _ u.used_is _ (rw u.laid.g_is at c.tabulate.ensures.tabled)
    (λ j. (c.type_inv.recording j).fits) c.scan_words.ensures.scans in
    search rules
