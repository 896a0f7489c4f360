-- `of_point` meets its contract. Assumes nothing.
use mathlib.Core.Path.{sym}
use mathlib.Core.Logic.{inl, inr}
use Rattle.fit.specs.Refused.{number_of}
use Rattle.questions.proofs.Laws.Askings.{point_bad, point_good}
use Rattle.questions.proofs.of_point.Goals as goal
use Rattle.questions.proofs.of_point.Goals.{then-p-eq0-via-then-p-eq0, then-p-eq0-via-else-p-eq0+then-m-p}

pub returns-then-p-eq0 : goal.returns-then-p-eq0
unfolding number_of
returns-then-p-eq0 c = elim c.then-p-eq0.branch [
  | then-p-eq0-via-then-p-eq0 w ↦ sym (point_bad _ _ (inl w.if-p-eq0.true))
  | then-p-eq0-via-else-p-eq0+then-m-p w ↦ sym (point_bad _ _ (inr w.if-m-p.true))
]

pub returns : goal.returns
returns c = sym (point_good _ _ c.if-p-eq0.false c.if-m-p.false)
