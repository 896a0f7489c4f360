-- `limits::Tolerance::new` meets its contract: each return says whether its reason applied. Assumes nothing.
use Rattle.std.proofs.Common.{refl, sym, inl, inr, ⊎_elim}
use Rattle.fit.specs.Refused.{number_of}
use Rattle.fit.proofs.Laws.Refusals.{tolerance_bad, tolerance_good}
use Rattle.limits.proofs.tolerance.Tolerance.new.Goals as goal

pub returns-then-delta-gt-MAX_DELTA-clause-value : goal.returns-then-delta-gt-MAX_DELTA-clause-value
unfolding number_of
returns-then-delta-gt-MAX_DELTA-clause-value c =
    sym (tolerance_bad _ _ (⊎_elim (λ d. inl d) (λ g. inr g.1) c.then-delta-gt-MAX_DELTA.either))

pub returns-clause-value : goal.returns-clause-value
returns-clause-value c =
    (tolerance_good _ _ c.if-delta-gt-MAX_DELTA.false c.if-gamma-gt-MAX_GAMMA.false, record { delta_is = refl; gamma_is = refl })
