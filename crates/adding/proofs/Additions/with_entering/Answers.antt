-- `adding::Additions::with_entering` meets its contract: the entering counter is added to the first word, and to no other.
use Rattle.std.proofs.Common.{◌≡◌, ℕ, ◌+◌, ◌*◌, ◌≤◌, List, arith, length, get_or, lt_of_lt_of_le}
use lib.Pow.{pow_mono}
use Rattle.counters.specs.Word.{Laid}
use Rattle.adding.specs.Costs.{added_of, with_entering}
use Rattle.adding.specs.Tables.{padded}
use Rattle.adding.specs.declared.Additions.{Additions}
use Rattle.adding.proofs.Laws.Costing.{added_le}
use Rattle.adding.proofs.Laws.Filling.{first_entered, next_entered}
use Rattle.adding.proofs.Additions.with_entering.Goals as goal

first : (k : Additions) (x : List ℕ) (w j a : ℕ) → 1 ≤ length x → j ≡ 0
    → Laid k.l k.per w (λ t. padded (length x) (λ i. added_of k.d k.g x i a) (j * k.per + t))
    → Laid k.l k.per (w + k.enter) (λ t. padded (length x) (λ i. with_entering k.enter (added_of k.d k.g x) i a) (j * k.per + t))
first k x w j a some e word =
    first_entered (length x) (λ i. added_of k.d k.g x i a) k.enter some k.l k.per w j k.some word e
    (omega (arith, added_le k.d k.g (get_or x 0 0) a k.room.each_small, k.enters))

pub overflow_add-result : goal.overflow_add-result
overflow_add-result c =
    let a = c.args in
    record { fits = lt_of_lt_of_le (first a.self a.points.now _ a.j a.a c.requires.0 c.if-j-eq0.true c.of_word-word.ensures).bound (pow_mono a.self.room.fit) }

pub returns-then-j-eq0 : goal.returns-then-j-eq0
returns-then-j-eq0 c = let a = c.args in first a.self a.points.now _ a.j a.a c.requires.0 c.if-j-eq0.true c.of_word-word.ensures

pub returns-else-j-eq0 : goal.returns-else-j-eq0
returns-else-j-eq0 c =
    let a = c.args in
    let k = a.self in
    next_entered _ (λ i. added_of k.d k.g a.points.now i a.a) _ c.requires.0 _ _ _ _ k.some c.of_word-word.ensures (omega arith)
