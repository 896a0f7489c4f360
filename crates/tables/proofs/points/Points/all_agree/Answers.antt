-- `Points::all_agree` meets its contract: the pairs that it asks are those of the condition. Assumes nothing.
use Prim.Native.Nat.{◌*◌, ◌-◌}
use mathlib.Core.Path.{◌≡◌, ◌∙◌}
use mathlib.Core.Bool.{true, false}
use native.Mathlib.Omega.{arith}
use lib.ListN.{length, drop, length-drop}
use borrow.Author.Rules.{rules}
use Rattle.std.proofs.lemmas.Iterator.{cases_from_all, YieldsList-from_slice, YieldsList-from_zip}
use Rattle.std.proofs.lemmas.List.{take_all}
use Rattle.fit.specs.Reading.{alike}
use Rattle.tables.proofs.Laws.Pairs.{all_pairs}
use Rattle.tables.proofs.points.Points.all_agree.Goals as goal

pub returns : goal.returns
returns c =
    let x = c.args.self.now.points.now in
    let k = c.args.k in
    let shifted = c.zip.ensures.second.0 ∙ take_all (length x - k) (drop k x) (omega (arith, length-drop k x)) in
    all_pairs c.args.self.now.d x k c.all.result
    (cases_from_all c.all.new.self _ _ (λ p. alike (2 * c.args.self.now.d) p.0 p.1 ≡ true) (λ p. alike (2 * c.args.self.now.d) p.0 p.1 ≡ false) c.all.ensures.ran
    (YieldsList-from_zip (YieldsList-from_slice x cc) (YieldsList-from_slice (drop k x) shifted))
    (λ p q r. search rules) (λ p q r. search rules))
