-- `probe::fitting` meets its contract: the mask has the windows that suit their points less than k from the probe. Assumes nothing.
use mathlib.Core.Path.{◌≡◌}
use Prim.Native.Nat.{◌+◌, ◌-◌}
use native.Mathlib.Omega.{arith}
use Rattle.probe.proofs.Laws.Arounds.{all_marks, none_marks}
use Rattle.probe.proofs.fitting.Goals as goal

pub returns-then-mask-eq0 : goal.returns-then-mask-eq0
returns-then-mask-eq0 c =
    let none : c.loop-k.mask ≡ 0 = omega arith in record {
      by_index = (λ fit table worth. none_marks fit _ _ _ (c.loop-k.k - 1) (omega arith) (rw none at (c.loop-k.invariant.1 fit table worth)));
      upper_bound = omega arith;
    }

pub loop-k-preserved : goal.loop-k-preserved
loop-k-preserved c =
    let same : c.loop-k.k + 1 - 1 ≡ c.loop-k.k = omega arith in
    (omega (arith, c.sieve_at-mask.ensures.upper_bound), λ fit table worth. rw same (c.sieve_at-mask.ensures.by_index fit table (c.loop-k.invariant.1 fit table worth)))

pub returns : goal.returns
returns c = record {
  by_index = (λ fit table worth. all_marks fit _ _ _ (c.loop-k.k - 1) _ (omega arith) (omega arith) (c.loop-k.invariant.1 fit table worth));
  upper_bound = c.loop-k.invariant.0;
}
