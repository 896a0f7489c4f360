-- `limits::of_recording` meets its contract: its one reason applies, or not. Assumes nothing.
use Rattle.std.proofs.Common.{sym}
use Rattle.fit.specs.Refused.{number_of}
use Rattle.fit.proofs.Laws.Refusals.{recording_bad, recording_good}
use Rattle.limits.proofs.checked.of_recording.Goals as goal

pub returns-then-recording-gt-MAX_READINGS : goal.returns-then-recording-gt-MAX_READINGS
unfolding number_of
returns-then-recording-gt-MAX_READINGS c = sym (recording_bad _ c.if-recording-gt-MAX_READINGS.true)

pub returns : goal.returns
returns c = sym (recording_good _ c.if-recording-gt-MAX_READINGS.false)
