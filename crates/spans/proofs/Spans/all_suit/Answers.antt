-- `spans::all_suit` meets its contract: the first 8 k readings suit. Assumes nothing.
use mathlib.Core.Path.{◌≡◌, sym, ◌∙◌}
use Prim.Native.Nat.{◌+◌, ◌*◌, ◌/◌}
use native.Mathlib.Omega.{arith}
use Rattle.fit.proofs.Laws.Rules.{fit_none, fit_broken}
use Rattle.spans.proofs.Spans.all_suit.Goals as goal

pub loop-k-init : goal.loop-k-init
loop-k-init c = (omega arith, fit_none _ _ _)

pub eight_suit-requires : goal.eight_suit-requires
eight_suit-requires c = (omega (arith, c.args.self.now.few), omega arith, c.loop-k.invariant.1)

pub loop-k-preserved : goal.loop-k-preserved
loop-k-preserved c =
    let next : 8 * (c.loop-k.k + 1) ≡ 8 * c.loop-k.k + 8 = omega arith in
    (omega arith, rw next (sym c.eight_suit.ensures ∙ c.if-not-eight_suit.false))

pub returns-then-not-eight_suit : goal.returns-then-not-eight_suit
returns-then-not-eight_suit c =
    sym (fit_broken _ _ _ _ (8 * c.loop-k.k + 8) (omega arith) (sym c.eight_suit.ensures ∙ c.if-not-eight_suit.true))

pub rest_suit-requires : goal.rest_suit-requires
rest_suit-requires c =
    let all : c.loop-k.k ≡ c.args.self.now.m / 8 = omega arith in
    (omega arith, omega arith, rw all at c.loop-k.invariant.1)

pub returns : goal.returns
returns c = c.rest_suit.ensures
