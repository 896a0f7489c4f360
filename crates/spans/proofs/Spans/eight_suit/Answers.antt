-- `spans::eight_suit` meets its contract: so far the first i + j readings suit, or not all of them. Assumes nothing.
use mathlib.Core.Bool.{Bool, ◌&&◌}
use mathlib.Core.Path.{◌≡◌, sym, ap₂, ◌∙◌}
use Prim.Native.Nat.{◌+◌}
use native.Mathlib.Omega.{arith}
use Rattle.fit.proofs.Laws.Rules.{fit_next}
use Rattle.spans.proofs.Spans.eight_suit.Goals as goal

pub loop-j-init : goal.loop-j-init
loop-j-init c =
    let known = c.requires in
    let none : c.args.i + 0 ≡ c.args.i = omega arith in
    (omega arith, omega arith, omega arith, rw none (sym known.2))

pub loop-j-preserved : goal.loop-j-preserved
loop-j-preserved c =
    let i = c.args.i in
    let j = c.loop-j.j in
    let next : i + (j + 1) ≡ i + j + 1 = omega arith in
    (omega arith, omega arith, omega arith, rw next (ap₂ (λ (a b : Bool). a && b) c.loop-j.invariant.3 c.suits-all.ensures ∙ sym (fit_next _ _ _ (i + j))))

pub returns : goal.returns
returns c =
    let all : c.loop-j.j ≡ 8 = omega arith in
    rw all at c.loop-j.invariant.3
