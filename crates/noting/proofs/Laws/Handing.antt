-- Laws of lists that are handed on: they stay the same two, step after step. Assumes nothing.
use Rattle.std.proofs.Common.{refl, ◌∙◌}
use Rattle.noting.specs.declared.Lists.{Lists}
use Rattle.noting.specs.Lists.{Same}

pub same_still : (l : Lists) → Same l l
same_still l = record { list = refl; sums = refl }

pub same_on : {a b c : Lists} → Same a b → Same b c → Same a c
same_on p q = record { list = q.list ∙ p.list; sums = q.sums ∙ p.sums }
