-- `report::put_report` meets its contract: the input is refused, or the searchers are asked. Assumes nothing.
use Rattle.input.proofs.Laws.Parses.{parse_accepted, recording_short}
use Rattle.report.proofs.Laws.Reports.{refused_report, accepted_report}
use Rattle.report.proofs.put_report.Goals as goal

pub put_searched-requires : goal.put_searched-requires
put_searched-requires c = rw c.in-Ok.ensures.recording (recording_short _ (parse_accepted _ c.in-Ok.ensures))

pub returns-in-Ok-clause-put : goal.returns-in-Ok-clause-put
returns-in-Ok-clause-put c = accepted_report _ c.in-Ok.ensures c.put_searched.ensures

pub returns-in-Err-clause-put : goal.returns-in-Err-clause-put
returns-in-Err-clause-put c = refused_report _ c.in-Err.ensures (rw (← c.number.ensures) c.put_refused.ensures)
