-- `Agreed::mismatch_at` meets its contract: the points compared earlier agree where j is not beyond those that agree. Assumes nothing.
use mathlib.Core.Path.{sym, ◌∙◌}
use native.Mathlib.Omega.{arith}
use borrow.Author.Tests.{lt-leb}
use Rattle.comparing.proofs.Laws.Orders.{agreeing_mismatch, no_mismatch}
use Rattle.comparing.proofs.Laws.Orderings.{compared_inside}
use Rattle.comparing.proofs.compared.Agreed.mismatch_at.Goals as goal

pub lone_at-requires : goal.lone_at-requires
lone_at-requires c = compared_inside c.requires.0

pub returns-then-j-from : goal.returns-then-j-from
returns-then-j-from c =
    let at = c.requires.0 in
    let agreed = c.from.ensures ∙ c.args.self.now.agreeing.at _ c.requires.1 in
    c.lone_at.ensures ∙ sym (agreeing_mismatch _ _ _ _ _ at.inside at.point (omega (arith, agreed, c.if-j-from.true)))

pub returns-else-j-from : goal.returns-else-j-from
returns-else-j-from c =
    let at = c.requires.0 in
    let agreed = c.from.ensures ∙ c.args.self.now.agreeing.at _ c.requires.1 in
    lt-leb _ _ c.if-j-from.false ∙ sym (no_mismatch _ _ _ _ _ at.inside at.point (omega (arith, agreed, c.if-j-from.false)))
