-- The scan as it goes along: the words follow the separate sums, and the windows that have ended were tried. Assumes nothing.
use mathlib.Core.Path.{◌≡◌, sym, ◌∙◌}
use mathlib.Core.Bool.{Bool, true}
use Rattle.std.specs.Prelude.{Option}
use Rattle.std.specs.Option.{is_some, unwrap_or}
use Rattle.std.specs.Bool.{then_some}
use mathlib.Core.List.{List}
use Prim.Native.Nat.{ℕ, suc, ◌+◌, ◌-◌, ◌*◌, ◌%◌, ◌^◌, ◌≤◌, ◌<◌}
use native.Mathlib.Omega.{arith}
use lib.Bits.{bit_and}
use lib.ListN.{length, get_or, take, drop, length-take, length-drop}
use lib.Seq.{get_or-take, get_or-drop}
use lib.Dec.{eqb}
use Rattle.fit.specs.Place.{windows}
use Rattle.fit.specs.Walk.{walk_by, every_window}
use Rattle.fit.specs.Answer.{Lent, nothing, told, Answer, Noted}
use Rattle.fit.specs.declared.answer.Found.{Found}
use Rattle.fit.proofs.Laws.Rules.{by_within, by_below}
use Rattle.fit.proofs.Laws.Steps.{every_start, every_step, every_end, every_rises, every_has, every_count}
use Rattle.fit.proofs.Laws.Answers.{noted_as, noted_if}
use Rattle.fit.proofs.Laws.Alongs.{Along, along_start, along_tried, along_same, along_end}
use Rattle.counters.specs.Word.{counter}
use Rattle.counters.specs.Words.{TurnedAcross}
use Rattle.counters.specs.declared.Masks.{Masks}
use Rattle.scan.specs.Following.{scan_cost, Scannable, Follows, Short, summing, sought_in}
use Rattle.scan.proofs.Laws.Following.{follows_more, last_told, judged}

-- the readings behind the lead, as the code takes them
module _ (lead : ℕ) (y : List ℕ) where
  abbrev behind : List ℕ
  behind = take (length y - lead) (drop lead y)

  pub behind_length : length behind ≡ length y - lead
  behind_length = simp (length-take, length-drop) (omega arith)

  pub behind_at : (s : ℕ) → s < length y - lead → get_or behind s 0 ≡ get_or y (lead + s) 0
  behind_at s h = get_or-take (length y - lead) (drop lead y) s 0 h ∙ get_or-drop lead y s 0

-- the windows below s were tried, and the words are at the reading before the next window's last; `at` and `bit` tell the last point's counter
pub record Scanned (k : Masks) (m used : ℕ) (t y : List ℕ) (count lead at bit : ℕ) (entry held : Lent) (words : List ℕ) (s : ℕ) (found : Found) : Type 0 where
  pub given : Scannable k m used t y
  pub counted : count ≡ windows m (length y)
  pub leads : lead ≡ length y - count
  pub last_is : at ≡ (m - 1) % k.per
  pub bit_is : bit ≡ 2 ^ (suc k.b * at + k.b)
  pub within : s ≤ count
  pub follows : Follows k used t y words (lead + s)
  pub along : Along (sought_in k m used t y) (every_window count) (walk_by (λ s. true) (λ s. s + 1) count (count - s) s) s entry held found

module _ (k : Masks) (m used : ℕ) (t y : List ℕ) (count lead at bit : ℕ) where
  pub scanned_start : (entry : Lent) (words : List ℕ) (found : Found) → Scannable k m used t y → count ≡ length y - lead → lead ≡ length y - windows m (length y)
      → at ≡ (m - 1) % k.per → bit ≡ 2 ^ (suc k.b * at + k.b)
      → found ≡ nothing → Follows k used t y words lead → Scanned k m used t y count lead at bit entry entry words 0 found
  scanned_start entry words found given counts leads last bits e f =
      let all : count ≡ windows m (length y) = omega (arith, given.some) in
      let here : lead ≡ lead + 0 = omega arith in
      record {
        given = given;
        counted = all;
        leads = rw all leads;
        last_is = last;
        bit_is = bits;
        within = omega arith;
        follows = rw here at f;
        along = along_same (every_start count) (along_start (sought_in k m used t y) (every_window count) 0 entry e);
      }

  -- the next reading was read
  module _ {entry held : Lent} {words words' : List ℕ} {s : ℕ} {found : Found} (h : Scanned k m used t y count lead at bit entry held words s found) (l : s < count)
      (turn : TurnedAcross k.b k.g k.per words k.enter (λ i. scan_cost k used t i (get_or y (lead + s) 0)) words') where
    -- whether the top bit of the last point's counter is clear, and that counter
    abbrev clear : Bool
    clear = eqb (bit_and (get_or words' (used - 1) 0) bit) 0

    abbrev last : ℕ
    last = counter (suc k.b) (get_or words' (used - 1) 0) at

    next : Follows k used t y words' (lead + s + 1)
    next = follows_more k h.given.sound used t y words (lead + s) words' h.follows turn

    window_ends : Follows k used t y words' (s + m)
    window_ends = let e : lead + s + 1 ≡ s + m = omega (arith, h.counted, h.leads, h.given.some) in rw e at next

    clear_told : clear ≡ (sought_in k m used t y).place s
    clear_told = rw (h.bit_is, h.last_is) (judged k h.given.sound used t y m s h.given.some h.given.needed (omega (arith, h.counted)) words' window_ends)

    sum_told : (sought_in k m used t y).place s ≡ true → last ≡ (sought_in k m used t y).sum s + k.enter
    sum_told = rw h.last_is (last_told k h.given.sound used t y m s h.given.some h.given.needed (omega (arith, h.counted)) words' window_ends)

    -- the counter of a place is short
    pub scanned_short : clear ≡ true → Short k.enter last
    scanned_short e =
        let place = sym clear_told ∙ e in
        let within = by_within (summing (scan_cost k used t)) m k.g y s place in
        record { grown = omega (arith, sum_told place); short = omega (arith, sum_told place, within, h.given.g_small) }

    -- and where the window is noted by that bit and that counter, it was tried
    pub scanned_more : {sum : Option ℕ} {held' : Lent} {found' : Found} → sum ≡ then_some clear (last - k.enter)
        → Noted (is_some sum) (unwrap_or sum 0) s found held found' held'
        → Scanned k m used t y count lead at bit entry held' words' (s + 1) found'
    scanned_more e note =
        let on : lead + s + 1 ≡ lead + (s + 1) = omega arith in
        record {
          given = h.given;
          counted = h.counted;
          leads = h.leads;
          last_is = h.last_is;
          bit_is = h.bit_is;
          within = omega arith;
          follows = rw on at next;
          along =
              along_tried (sought_in k m used t y) s s (s + 1) (along_same (every_step count s l) h.along)
              (noted_as clear _ (last - k.enter) _ s found held clear_told (λ p. omega (arith, sum_told p)) (noted_if clear (last - k.enter) s found held (rw e at note))) (omega arith);
        }

  pub scanned_end : {entry held : Lent} {words : List ℕ} {s : ℕ} {found : Found} → Scanned k m used t y count lead at bit entry held words s found → count ≤ s
      → Answer 0 (sought_in k m used t y) (windows m (length y)) entry (told found) held × Follows k used t y words (length y)
  scanned_end {s = s} h l =
      let all : lead + s ≡ length y = omega (arith, h.within, h.counted, h.leads) in
      let below : (i : ℕ) → (sought_in k m used t y).place i ≡ true → i < count =
      λ i e. omega (arith, h.counted, by_below (summing (scan_cost k used t)) m k.g y i e) in (
        along_end (sought_in k m used t y) (every_window count) s (windows m (length y))
            (λ i e. omega (arith, h.counted, below i e)) (every_count count ∙ h.counted) (every_rises count) (λ i e. every_has count i (below i e))
            (along_same (every_end count s l) h.along),
        rw all at h.follows,
      )
