-- `sieve::sift` meets its contract: each window keeps its mark where it suits the three points. Assumes nothing.
use Prim.Native.Nat.{◌+◌, ◌-◌, ◌/◌}
use mathlib.Core.Path.{ap, ◌∙◌}
use mathlib.Core.Bool.{Bool, cond}
use native.Mathlib.Omega.{arith}
use lib.ListN.{get_or}
use Rattle.fit.specs.Spans.{rule_in}
use Rattle.sieve.proofs.Laws.Passes.{sifting_start, sifting_next, passes_more, none_pass}
use Rattle.sieve.proofs.sift.Goals as goal

pub returns-in_default : goal.returns-in_default
returns-in_default c =
    let given = c.args in
    none_pass (rule_in given.spans.now.rows).fit given.spans.now.m given.recording.now given.s given.i
    (λ t. c.in_default.ensures _ _ _ (omega (arith, c.type_inv.recording (t + given.i)), omega (arith, c.type_inv.recording (t + (given.spans.now.m / 3 + given.i))), omega (arith, c.type_inv.recording (t + (given.spans.now.m - 1 - given.i)))))

pub loop-j-init : goal.loop-j-init
loop-j-init c = sifting_start _ _ c.requires.entries

pub loop-j-preserved : goal.loop-j-preserved
loop-j-preserved c =
    let given = c.args in
    let t = given.s + c.loop-j.j in
    let inv = c.loop-j.invariant in
    sifting_next _ _ _ _ _ _ c.loop-j-test.true inv
    (passes_more (rule_in given.spans.now.rows).fit given.spans.now.m given.recording.now t given.i _ _ (inv.marked.left _ (omega arith) c.loop-j-test.true)
    (c.kept.ensures
    ∙ ap (λ (b : Bool). cond b (get_or c.loop-j.marks c.loop-j.j 0) 0)
    (c.in-Some.ensures _ _ _ (omega (arith, c.type_inv.recording (t + given.i)), omega (arith, c.type_inv.recording (t + (given.spans.now.m / 3 + given.i))), omega (arith, c.type_inv.recording (t + (given.spans.now.m - 1 - given.i)))))))
    c.max-most.ensures
