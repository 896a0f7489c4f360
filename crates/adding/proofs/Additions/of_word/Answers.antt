-- `adding::Additions::of_word` meets its contract: the points of word j, and nothing above them.
use Rattle.std.proofs.Common.{◌*◌}
use Rattle.adding.specs.Costs.{added}
use Rattle.adding.proofs.Laws.Filling.{part_laid}
use Rattle.adding.proofs.Additions.of_word.Goals as goal

pub returns : goal.returns
returns c =
    let a = c.args in
    part_laid a.points.now (a.j * a.self.per) a.self.per _ _ c.min-from.ensures c.min-to.ensures a.self.l c.of_points.result
    (λ p. added a.self.d a.self.g p a.a) c.of_points.ensures
