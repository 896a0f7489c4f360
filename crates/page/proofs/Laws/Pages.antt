-- Laws of texts on a page. Assumes nothing.
use Prim.Native.Nat.{ℕ, ◌+◌, ◌-◌, ◌≤◌, min}
use mathlib.Core.Path.{◌≡◌, refl, sym, ap, ◌∙◌}
use native.Mathlib.Omega.{arith}
use native.Mathlib.Decide.{dec_le}
use native.Mathlib.Nat.{add-zero, add_assoc, sub-add-eq}
use mathlib.Core.List.{List, [], ◌++◌, append_assoc, append-nil}
use lib.ListN.{length, take, drop, length-append}
use lib.Seq.{paste, paste-zero, length-paste, take-paste, drop-paste, drop-drop, take-length, take-append-add, take-append-le}
use Rattle.page.specs.Put.{fits, Put}
use Rattle.page.specs.Puts.{Puts}
use Rattle.page.specs.declared.Page.{Page}

pub nothing_put : (page : List ℕ) (at : ℕ) (text : List ℕ) → length page ≤ at → Put page at text at page
nothing_put page at text full =
    let none : fits page at text ≡ 0 = omega arith in
    record {
      held = rw none (paste-zero page at text);
      ends = omega (arith, none);
    }

-- a text has no second page and no second end
pub no_second_page : (page : List ℕ) (at : ℕ) (text : List ℕ) (end also : ℕ) (after other : List ℕ) → Put page at text end after → Put page at text also other
    → (end ≡ also) × (after ≡ other)
no_second_page page at text end also after other h k = (h.ends ∙ sym k.ends, h.held ∙ sym k.held)

-- a page keeps its length
pub put_long : (page : List ℕ) (at : ℕ) (text : List ℕ) {end : ℕ} {after : List ℕ} → Put page at text end after → length after ≡ length page
put_long page at text {end} {after} h = by_room (dec_le at (length page))
  where
    by_room : Dec (at ≤ length page) → length after ≡ length page
    by_room (yes room) =
        let some : fits page at text ≤ length text = omega arith in
        ap length h.held ∙ length-paste page at text (fits page at text) (omega (arith, room)) some
    by_room (no full) = ap length (no_second_page page at text end at after page h (nothing_put page at text (omega (arith, full)))).1

-- a text that begins on it ends on it
pub put_inside : (page : List ℕ) (at : ℕ) (text : List ℕ) {end : ℕ} {after : List ℕ} → at ≤ length page → Put page at text end after → end ≤ length after
put_inside page at text room h = rw (h.ends, put_long page at text h) (omega (arith, room))

-- and one that is no longer than the page stands there whole
pub put_whole : (page text : List ℕ) {end : ℕ} {after : List ℕ} → length text ≤ length page → Put page 0 text end after → take end after ≡ text
put_whole page text short h =
    let all : fits page 0 text ≡ length text = omega (arith, short) in
    rw (h.ends, h.held, all) (take-paste page 0 text (length text) (omega arith) (omega arith) ∙ take-length text)

-- no text puts nothing
pub put_none : (page : List ℕ) (at : ℕ) → Put page at [] at page
put_none page at =
    let none : fits page at [] ≡ 0 = omega arith in
    record {
      held = rw none (paste-zero page at []);
      ends = omega (arith, none);
    }

-- ---- two texts, one behind the other, are one text
both_fit : (p q room na nb : ℕ) → na ≡ min p room → nb ≡ min q (room - na) → min (p + q) room ≡ na + nb
both_fit p q room na nb e f = omega (arith, e, f)

module _ (page : List ℕ) (at : ℕ) (a b : List ℕ) where
  -- na bytes of the first and nb of the second fit: these are the first bytes of both
  taken_both : (na nb : ℕ) → na ≡ fits page at a → nb ≡ min (length b) (length page - (at + na)) → take (na + nb) (a ++ b) ≡ take na a ++ take nb b
  taken_both na nb e f = by_room (dec_le (length a) (length page - at))
    where
      by_room : Dec (length a ≤ length page - at) → take (na + nb) (a ++ b) ≡ take na a ++ take nb b
      by_room (yes l) =
          let all : na ≡ length a = omega (arith, e, l) in
          rw all (take-append-add a b nb ∙ ap (λ (h : List ℕ). h ++ take nb b) (sym (take-length a)))
      by_room (no l) =
          let none : nb ≡ 0 = omega (arith, e, f, l) in
          rw (none, add-zero na) (take-append-le na a b (omega (arith, e)) ∙ sym (append-nil (take na a)))

  nothing_both : length page ≤ at → (mid end : ℕ) (between after : List ℕ) → Put page at a mid between → Put between mid b end after → Put page at (a ++ b) end after
  nothing_both full mid end between after h k =
      let first = no_second_page page at a mid at between page h (nothing_put page at a full) in
      let second = no_second_page page at b end at after page (rw (first.0, first.1) at k) (nothing_put page at b full) in
      rw (second.0, second.1) (nothing_put page at (a ++ b) full)

  -- what is pasted behind na bytes of the first text
  pasted_both : (na nb : ℕ) → at ≤ length page → na ≤ length a
      → paste (paste page at a na) (at + na) b nb ≡ (take at page ++ (take na a ++ take nb b)) ++ drop (at + (na + nb)) page
  pasted_both na nb room some =
      let first : List ℕ = paste page at a na in
      let back : drop (at + na + nb) first ≡ drop (at + (na + nb)) page =
      sym (drop-drop nb (at + na) first) ∙ ap (drop nb) (drop-paste page at a na room some) ∙ drop-drop nb (at + na) page
      ∙ ap (λ (n : ℕ). drop n page) (add_assoc at na nb) in
      rw (take-paste page at a na room some, back) (ap (λ (l : List ℕ). l ++ drop (at + (na + nb)) page) (append_assoc (take at page) (take na a) (take nb b)))

  room_both : at ≤ length page → (na end : ℕ) (after : List ℕ) → na ≡ fits page at a → Put (paste page at a na) (at + na) b end after → Put page at (a ++ b) end after
  room_both room na end after e k =
      let some : na ≤ length a = omega (arith, e) in
      let long = length-paste page at a na (omega (arith, e, room)) some in
      let nb : ℕ = fits (paste page at a na) (at + na) b in
      let counted : nb ≡ min (length b) (length page - (at + na)) = rw long in
      let sum : fits page at (a ++ b) ≡ na + nb =
      rw (length-append a b) (both_fit (length a) (length b) (length page - at) na nb e (counted ∙ ap (min (length b)) (sub-add-eq (length page) at na))) in
      record {
        held = rw (sum, taken_both na nb e counted) (k.held ∙ pasted_both na nb room some);
        ends = k.ends ∙ add_assoc at na nb ∙ ap (λ (n : ℕ). at + n) (sym sum);
      }

  pub put_both : {mid end : ℕ} {between after : List ℕ} → Put page at a mid between → Put between mid b end after → Put page at (a ++ b) end after
  put_both {mid} {end} {between} {after} h k = by_room (dec_le at (length page))
    where
      by_room : Dec (at ≤ length page) → Put page at (a ++ b) end after
      by_room (yes room) = room_both room (fits page at a) end after refl (rw (h.ends, h.held) at k)
      by_room (no full) = nothing_both (omega (arith, full)) mid end between after h k

-- ---- the same of the type `Page`
pub puts_none : (p : Page) → Puts p [] p
puts_none p = record {
  put = put_none p.bytes.now p.end;
  same = refl;
}

pub puts_both : (a b : List ℕ) {p q r : Page} → Puts p a q → Puts q b r → Puts p (a ++ b) r
puts_both a b {p} h k = record {
  put = put_both p.bytes.now p.end a b h.put k.put;
  same = k.same ∙ h.same;
}

-- a text that equals what was put
pub puts_same : {a b : List ℕ} {p q : Page} → a ≡ b → Puts p a q → Puts p b q
puts_same e h = rw e at h

-- no second page is left
pub no_second_puts : (p : Page) (text : List ℕ) {q q' : Page} → Puts p text q → Puts p text q'
    → (q.end ≡ q'.end) × (q.bytes.now ≡ q'.bytes.now) × (q.bytes.ghost_name ≡ q'.bytes.ghost_name)
no_second_puts p text h k =
    let same = no_second_page p.bytes.now p.end text _ _ _ _ h.put k.put in
    (same.0, same.1, h.same ∙ sym k.same)
