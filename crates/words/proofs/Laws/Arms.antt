-- A scan in so many words, in an array of their own. Assumes nothing.
use mathlib.Core.Path.{◌≡◌}
use mathlib.Core.List.{List}
use Prim.Native.Nat.{ℕ, ◌-◌}
use lib.ListN.{length}
use Rattle.fit.specs.Place.{windows}
use Rattle.counters.specs.declared.Masks.{Masks}
use Rattle.scan.specs.Following.{Scannable, Follows}

-- ---- a search in `used` words, where n are used and stand in an array of their own: what the lead asks, and what the windows ask
module _ (k : Masks) (m used n : ℕ) (t y : List ℕ) (e : used ≡ n) (given : Scannable k m used t y) where
  pub may_lead : Scannable k m n t y
  may_lead = rw (← e) given

  module _ (words : List ℕ) (lead : ℕ) (f : (lead ≡ length y - windows m (length y)) × Follows k n t y words lead) where
    -- whatever the search has found so far
    pub may_window : {A : Type 0} (before found : A) → found ≡ before
        → (Scannable k m (length words) t y × (found ≡ before)) × ((lead ≡ length y - windows m (length y)) × Follows k (length words) t y words lead)
    may_window before found none = rw f.1.long ((may_lead, none), f)
