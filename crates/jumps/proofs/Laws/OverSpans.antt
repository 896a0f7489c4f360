-- A profile that is compiled to spans has the jumps of its points. Assumes nothing.
use Prim.Native.Nat.{ℕ}
use mathlib.Core.Path.{◌≡◌}
use mathlib.Core.List.{List}
use lib.ListN.{length}
use Rattle.fit.specs.Place.{fit_of, d_of}
use Rattle.fit.specs.Refusal.{Asked}
use Rattle.fit.specs.Spans.{rule_in, spans_of}
use Rattle.fit.proofs.Laws.Compiled.{compiled_near}
use Rattle.jumps.specs.Jumps.{last_jump, next_jump, seen_jump}
use Rattle.jumps.proofs.Laws.OneReading.{last_same, next_same, seen_same}

module _ (delta gamma : ℕ) (x spans : List ℕ) (made : spans ≡ spans_of (d_of delta gamma) x) (asked : Asked delta gamma x) where
  pub last_over_spans : (a : ℕ) → last_jump (rule_in spans).fit (length x) a ≡ last_jump (fit_of (d_of delta gamma) x) (length x) a
  last_over_spans a = last_same (rule_in spans).fit (fit_of (d_of delta gamma) x) (length x) a (λ i l. compiled_near delta gamma x spans made asked.few i a l)

  pub next_over_spans : (a : ℕ) → next_jump (rule_in spans).fit (length x) a ≡ next_jump (fit_of (d_of delta gamma) x) (length x) a
  next_over_spans a = next_same (rule_in spans).fit (fit_of (d_of delta gamma) x) (length x) a (λ i l. compiled_near delta gamma x spans made asked.few i a l)

  pub seen_over_spans : (a : ℕ) → seen_jump (rule_in spans).fit (length x) a ≡ seen_jump (fit_of (d_of delta gamma) x) (length x) a
  seen_over_spans a =
      seen_same (rule_in spans).fit (fit_of (d_of delta gamma) x) (length x) a (λ i l. compiled_near delta gamma x spans made asked.few i a l) asked.some
