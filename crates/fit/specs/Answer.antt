-- What a search answers, and what it leaves in the lent lists. Assumes nothing.
use Rattle.std.specs.Prelude.{ℕ, zero, suc, ◌+◌, Bool, cond, ◌≡◌, List, map, length, set, Result, Ok, Err}
use Rattle.fit.specs.Rule.{Rule, sum_cost, is_place_by}
use Rattle.fit.specs.Place.{sum_diff, is_place, windows}
use Rattle.fit.specs.Listing.{up_to, overlay}
use Rattle.fit.specs.Sums.{least_of, lowered}
use Rattle.fit.specs.Refusal.{search_refusal}
use Rattle.fit.specs.Refused.{number_of}
use Rattle.fit.specs.declared.answer.Found.{Found}
use Rattle.fit.specs.declared.answer.Search.{Search}
use Rattle.fit.specs.declared.refusal.Refusal.{Refusal}

-- what is sought: which of the windows below `count` are places, and the sum of each that is one
pub record Sought : Type 0 where
  pub count : ℕ
  pub place : ℕ → Bool
  pub sum : ℕ → ℕ

-- the places under a rule of m points, and those of an ordinary profile
abbrev pub sought_by : Rule → ℕ → ℕ → List ℕ → Sought
sought_by r m gamma y = record { count = windows m (length y); place = is_place_by r m gamma y; sum = λ s. sum_cost r.cost y s m }

abbrev pub sought_of : ℕ → ℕ → List ℕ → List ℕ → Sought
sought_of delta gamma x y = record { count = windows (length x) (length y); place = is_place delta gamma x y; sum = sum_diff x y }

-- all that is sought, rising
abbrev pub all : Sought → List ℕ
all t = up_to t.place t.count

-- all that was lent: the list for the places, and "a second lent list of 16-bit numbers" (#107) for their sums
pub record Lent : Type 0 where
  pub list : List ℕ
  pub sums : List ℕ

abbrev pub lent : List ℕ → List ℕ → Lent
lent list sums = record { list = list; sums = sums }

-- what was lent, with the places ps laid in, and "the places' sums in the same order"; "each is filled as far as it goes and untouched beyond" (#107)
abbrev pub laid : Sought → List ℕ → Lent → Lent
laid t ps entry = record { list = overlay ps entry.list; sums = overlay (map t.sum ps) entry.sums }

-- the counts before the first window
abbrev pub nothing : Found
nothing = record { total = 0; tried = 0; least = 0 }

-- the counts where the places ps are found and so many windows are tried, and their "least sum" (#107)
abbrev pub found_in : Sought → List ℕ → ℕ → Found
found_in t ps tried = record { total = length ps; tried = tried; least = least_of (map t.sum ps) }

-- the whole result in numbers alone, as C has it. "A refusal returns its number with all counts 0", and the least sum is 0 too
abbrev pub begun : ℕ → Search
begun num = record { refusal = num; total = 0; tried = 0; least = 0 }

-- what was found, by a search that is not refused
abbrev pub told : Found → Search
told f = record { refusal = 0; total = f.total; tried = f.tried; least = f.least }

abbrev pub search_of : Result Found Refusal → Search
search_of (Ok f) = told f
search_of (Err e) = begun (number_of e)

abbrev pub tally : Sought → List ℕ → ℕ → Search
tally t ps tried = told (found_in t ps tried)

-- the whole result, by the refusal's number: "the total of places and the count of windows tried", and "the least sum over all places"
unfoldable pub outcome : ℕ → Sought → ℕ → Search
outcome zero t tried = tally t (all t) tried
outcome (suc num) t tried = begun (suc num)

-- what was lent, at the end: refused, "the lent list keeps every entry"; "A refusal touches neither" (#107)
unfoldable pub filled : ℕ → Sought → Lent → Lent
filled zero t entry = laid t (all t) entry
filled (suc num) t entry = entry

-- the answer r and the final lists of a search for t that is refused by num (0: accepted) and tries so many windows
pub record Answer (num : ℕ) (t : Sought) (tried : ℕ) (entry : Lent) (r : Search) (final : Lent) : Type 0 where
  pub result : r ≡ outcome num t tried
  pub lists : final ≡ filled num t entry

-- the contract of every searcher for ordinary profiles: only `tried` differs
abbrev pub Answers : ℕ → ℕ → List ℕ → List ℕ → ℕ → Lent → Search → Lent → Type 0
Answers delta gamma x y tried entry r final =
    Answer (search_refusal delta gamma x y) (sought_of delta gamma x y) tried entry r final

-- one window more was tried, at s, and it was a place, with that sum, or not: the counts, and what was lent. Of a window that is none the sum does not
-- matter
unfoldable pub noted : Bool → ℕ → Found → Found
noted hit sum r = cond hit
    (record { total = r.total + 1; tried = r.tried + 1; least = lowered r.total r.least sum })
    (record { total = r.total; tried = r.tried + 1; least = r.least })

unfoldable pub listed : Bool → ℕ → ℕ → ℕ → Lent → Lent
listed hit sum s at l = cond hit (record { list = set l.list at s; sums = set l.sums at sum }) l

pub record Noted (hit : Bool) (sum s : ℕ) (before : Found) (entry : Lent) (r : Found) (final : Lent) : Type 0 where
  pub counts : r ≡ noted hit sum before
  pub lists : final ≡ listed hit sum s before.total entry

-- the window at s was tried
abbrev pub Tried : Sought → ℕ → Found → Lent → Found → Lent → Type 0
Tried t s before entry r final = Noted (t.place s) (t.sum s) s before entry r final
