-- A rule that compares several points: both halves of demand 3, the second where gamma is at least m times what one point may cost. Assumes
-- nothing.
use Prim.Native.Nat.{ℕ, ◌+◌, ◌-◌, ◌*◌, ◌≤◌, ◌<◌}
use mathlib.Core.Path.{◌≡◌, refl, sym, subst}
use mathlib.Core.Bool.{Bool, true}
use native.Mathlib.Nat.{le_trans}
use native.Mathlib.Decide.{dec_le, dec_lt}
use native.Mathlib.Omega.{arith}
use lib.Dec.{leb}
use Rattle.fit.specs.Reading.{highest}
use Rattle.fit.specs.Rule.{Rule, reading_at, near_by}
use Rattle.fit.specs.Refusal.{max_readings}
use Rattle.fit.proofs.Laws.Bools.{and_left, not_both}
use Rattle.fit.proofs.Laws.Rules.{sum_bound}
use Rattle.jumps.specs.Least.{least}
use Rattle.jumps.specs.Demand.{Seen, NotTooLong, Reaches}
use Rattle.jumps.proofs.Laws.Leasts.{least_le, least_holds, least_none}
use Rattle.jumps.proofs.Laws.Frame.{Home, Some, Meet, PlaceBy, clash, built}

-- a reading for position q where the jump is k: as the evidence says, and it suits at a cost of at most b where the jump lands
record Pick (r : Rule) (m : ℕ) (P : ℕ → ℕ → Type 0) (k q b : ℕ) : Type 0 where
  c : ℕ
  byte : c ≤ highest
  seen : q < m → P q c
  fits : (i : ℕ) → i < m → q ≡ k + i → r.fit i c ≡ true
  cheap : (i : ℕ) → i < m → q ≡ k + i → r.cost i c ≤ b

module _ (r : Rule) (m gamma : ℕ) (some : 1 ≤ m) (P : ℕ → ℕ → Type 0) (test : ℕ → Bool) where
  -- at every point that the old and the landing window share, some reading is as the evidence says and may stand there
  abbrev pub Meets : ℕ → Type 0
  Meets k = (i : ℕ) → k + i < m → Meet r gamma i (P (k + i))

  module _ (sound : (k : ℕ) → Meets k → test k ≡ true) where
    pub several_long : NotTooLong (PlaceBy r m gamma) (Seen P m) 1 (least test 1 (m - 1))
    several_long y s t rd e p place =
        not_both
        (sound k (λ i l.
        let both = clash r m gamma P m y s t (k + i) i e place (omega (arith, p.since)) l (omega arith) in
        record { c = reading_at y s (k + i); byte = rd (s + (k + i)); seen = both.0; near = both.1 }))
        (least_none test 1 (m - 1) k (omega (arith, p.since)) (omega (arith, p.since, p.before)))
      where
        k : ℕ
        k = t - s

    pub several_short : m + (m + m) ≤ max_readings → Home r m → ((k : ℕ) → test k ≡ true → Meets k) → ((q : ℕ) → q < m → Some (P q))
        → (d : ℕ) → ((i a : ℕ) → near_by r gamma i a ≡ true → r.cost i a ≤ d) → m * d ≤ gamma
        → Reaches (PlaceBy r m gamma) (Seen P m) (least test 1 (m - 1))
    several_short short h meets any d most enough =
        built r m gamma P m (λ q. (pick q).c) k (omega (arith, least_le test 1 (m - 1))) (λ q. (pick q).byte) (λ q l. (pick q).seen l) (λ i l. (pick (k + i)).fits i l refl)
        (λ y t on. le_trans (sum_bound r.cost y t m d
        (λ i l. subst (λ (a : ℕ). r.cost i a ≤ d) (sym (on i l)) ((pick (k + i)).cheap i l refl))) enough)
      where
        k : ℕ
        k = least test 1 (m - 1)

        -- k = m passes: there the windows share no point
        passes : test k ≡ true
        passes = least_holds test 1 (m - 1) (sound (1 + (m - 1)) (λ i l. absurd (omega arith)))

        choose : (q : ℕ) → Dec (q < m) → Dec (k ≤ q) → Pick r m P k q d
        choose q (yes a) (yes l) =
            let e : k + (q - k) ≡ q = omega arith in
            let n = meets k passes (q - k) (omega arith) in
            let f = n.near in
            record {
              c = n.c;
              byte = n.byte;
              seen = λ a'. subst (λ (j : ℕ). P j n.c) e n.seen;
              fits = λ i l' e'. subst (λ (i' : ℕ). r.fit i' n.c ≡ true) (omega arith) (and_left (r.fit (q - k) n.c) (leb (r.cost (q - k) n.c) gamma) f);
              cheap = λ i l' e'. subst (λ (i' : ℕ). r.cost i' n.c ≤ d) (omega arith) (most (q - k) n.c f);
            }
        choose q (yes a) (no l) = record {
          c = (any q a).c;
          byte = (any q a).byte;
          seen = λ a'. (any q a).seen;
          fits = λ i l' e'. absurd (omega arith);
          cheap = λ i l' e'. absurd (omega arith);
        }
        choose q (no a) l = record {
          c = h.home (q - k);
          byte = h.byte (q - k);
          seen = λ a'. absurd (a a');
          fits = λ i l' e'. subst (λ (i' : ℕ). r.fit i (h.home i') ≡ true) (omega arith) (h.fits i l');
          cheap = λ i l' e'. let s : i ≡ q - k = omega arith in subst (λ (i' : ℕ). r.cost i (h.home i') ≤ d) s (omega (arith, h.free i l'));
        }

        pick : (q : ℕ) → Pick r m P k q d
        pick q = choose q (dec_lt q m) (dec_le k q)
