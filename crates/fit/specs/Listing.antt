-- Lists of windows, and what a lent list holds after a search. Assumes nothing.
use Rattle.std.specs.Prelude.{ℕ, zero, suc, ◌≤◌, ◌<◌, Bool, cond, ◌≡◌, List, [], ◌∷◌, ◌++◌, length, get_or}
use Rattle.fit.specs.Place.{is_place, windows}

-- the numbers below k that pass a test, rising
unfoldable pub up_to : (ℕ → Bool) → ℕ → List ℕ
up_to p zero = []
up_to p (suc k) = cond (p k) (up_to p k ++ (k ∷ [])) (up_to p k)

-- the places of a profile in a recording, rising
unfoldable pub places : ℕ → ℕ → List ℕ → List ℕ → List ℕ
places delta gamma x y = up_to (is_place delta gamma x y) (windows (length x) (length y))

-- "holds the first places, as many as fit; entries beyond those are untouched"
unfoldable pub overlay : List ℕ → List ℕ → List ℕ
overlay [] entry = entry
overlay (p ∷ ps) [] = []
overlay (p ∷ ps) (e ∷ entry) = p ∷ overlay ps entry

-- a strictly rising list whose first entry is at least b
pub data Rising : ℕ → List ℕ → Type 0 where
  none : {b : ℕ} → Rising b []
  next : {b a : ℕ} {l : List ℕ} → b ≤ a → Rising (suc a) l → Rising b (a ∷ l)

-- the entries of a list that pass a test
unfoldable pub those : (ℕ → Bool) → List ℕ → List ℕ
those p [] = []
those p (a ∷ l) = cond (p a) (a ∷ those p l) (those p l)

-- a list of n entries: f 0, f 1 and so on
pub record Entries (f : ℕ → ℕ) (n : ℕ) (l : List ℕ) : Type 0 where
  pub long : length l ≡ n
  pub each : (j : ℕ) → j < n → get_or l j 0 ≡ f j
