-- `scan::Scan::told_sum` meets its contract: the counter is cut out of its word, and what it started at is taken off.
use Rattle.std.proofs.Common.{ℕ, ◌-◌, ap, arith, Some, eq-eqb}
use Rattle.scan.proofs.Laws.Following.{value_is}
use Rattle.scan.proofs.Scan.told_sum.Goals as goal

pub overflow_sub-result : goal.overflow_sub-result
overflow_sub-result c =
    let k = c.args.self.now.masks in
    rw (value_is k k.sound c.args.word c.args.at) (c.requires.1 c.if-word-bit-ne0.false).grown

pub overflow_cast-result : goal.overflow_cast-result
overflow_cast-result c =
    let k = c.args.self.now.masks in
    let kept = c.requires.1 c.if-word-bit-ne0.false in
    omega (arith, value_is k k.sound c.args.word c.args.at, kept.grown, kept.short)

pub returns : goal.returns
returns c =
    let k = c.args.self.now.masks in
    rw (eq-eqb _ _ c.if-word-bit-ne0.false) (ap (λ (v : ℕ). Some (v - k.enter)) (value_is k k.sound c.args.word c.args.at))
