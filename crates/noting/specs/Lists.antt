-- The two lent lists, handed on together. Assumes nothing.
use Rattle.std.specs.Prelude.{◌≡◌}
use Rattle.fit.specs.Answer.{Lent, lent}
use Rattle.noting.specs.declared.Lists.{Lists}

-- what they hold
abbrev pub lent_in : Lists → Lent
lent_in l = lent l.list.now l.sums.now

-- they are the two lists that they were, whatever is written into them
pub record Same (old new : Lists) : Type 0 where
  pub list : new.list.ghost_name ≡ old.list.ghost_name
  pub sums : new.sums.ghost_name ≡ old.sums.ghost_name
