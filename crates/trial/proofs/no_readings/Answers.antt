-- The list is a million long, so the law is named: a search would write it out.
use Rattle.std.proofs.Common.{ℕ, sym}
use Rattle.std.proofs.lemmas.List.{length-replicate}
use Rattle.trial.proofs.no_readings.Goals as goal

pub returns : goal.returns
returns c = sym (length-replicate {A = ℕ} 1000001 0)
