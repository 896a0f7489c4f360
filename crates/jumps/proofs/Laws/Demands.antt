-- Demand 3: for each jump rule its two halves, on its own evidence and no more. Assumes nothing.
use Prim.Native.Nat.{ℕ, ◌+◌, ◌-◌, ◌*◌, ◌≤◌, ◌<◌}
use mathlib.Core.Path.{◌≡◌, refl, sym, subst, ◌∙◌}
use mathlib.Core.Bool.{true, false}
use mathlib.Core.Logic.{⊎_elim}
use mathlib.Core.List.{List}
use native.Mathlib.Decide.{ℕ_discrete}
use native.Mathlib.Omega.{arith}
use lib.ListN.{length, get_or}
use Rattle.fit.specs.Reading.{highest, diff, alike, near}
use Rattle.fit.specs.Rule.{Rule, near_by}
use Rattle.fit.specs.Place.{fit_of, rule_of, Place, d_of}
use Rattle.fit.specs.Refusal.{Asked}
use Rattle.fit.proofs.Laws.Bools.{either, not_both}
use Rattle.fit.proofs.Laws.Readings.{near_le, near_self, zero_far}
use Rattle.fit.proofs.Laws.Places.{place_by, by_place, near_derived}
use Rattle.jumps.specs.Jumps.{last_jump, next_jump, seen_jump, after_jump, lonely, earlier, mismatch_at, mismatch_jump, full_at, full_jump}
use Rattle.jumps.specs.Demand.{Readings, NotTooLong, Reaches, Occurs, LastIs, NextIs, LastNear, MismatchedAt, Mismatch, AllNear}
use Rattle.jumps.proofs.Laws.Nears.{near_both, both_near, lonely_is, is_lonely}
use Rattle.jumps.proofs.Laws.Conditions.{lone_is, is_lone, not_before_itself, agrees_is, is_agreed, mismatch_lone, mismatch_agrees, is_mismatch, full_is, is_full}
use Rattle.jumps.proofs.Laws.Frame.{Home, Some, Meet, PlaceBy, occurs, long_as, reaches_as}
use Rattle.jumps.proofs.Laws.Single.{single_passes, single_short}
use Rattle.jumps.proofs.Laws.Several.{Meets, several_long, several_short}
use Rattle.jumps.proofs.Laws.OneReading.{last_same, next_same, seen_same, last_by_not_too_long, next_by_not_too_long, seen_by_not_too_long, last_by_reaches, next_by_reaches, seen_by_reaches}

-- an accepted profile: its points are readings
module _ (delta gamma : ℕ) (x : List ℕ) (asked : Asked delta gamma x) where
  abbrev d : ℕ
  d = d_of delta gamma

  abbrev m : ℕ
  m = length x

  abbrev at : ℕ → ℕ
  at i = get_or x i 0

  abbrev last : ℕ
  last = m - 1

  abbrev rule : Rule
  rule = rule_of delta x

  long : (E : List ℕ → ℕ → Type 0) (from j k : ℕ) → j ≡ k → NotTooLong (PlaceBy rule m gamma) E from j → NotTooLong (Place delta gamma x) E from k
  long E from j k e h =
      long_as (PlaceBy rule m gamma) (Place delta gamma x) E from k (λ y t p. place_by delta gamma x y t p) (subst (NotTooLong (PlaceBy rule m gamma) E from) e h)

  reaches : (E : List ℕ → ℕ → Type 0) (j k : ℕ) → j ≡ k → Reaches (PlaceBy rule m gamma) E j → Reaches (Place delta gamma x) E k
  reaches E j k e h = reaches_as (PlaceBy rule m gamma) (Place delta gamma x) E k (λ y t e. by_place delta gamma x y t e) (subst (Reaches (PlaceBy rule m gamma) E) e h)

  -- ---- what may stand at a point is what is near it
  near_of : (i c : ℕ) → near_by rule gamma i c ≡ true → near d (at i) c ≡ true
  near_of i c e = sym (near_derived delta gamma x i c) ∙ e

  of_near : (i c : ℕ) → near d (at i) c ≡ true → near_by rule gamma i c ≡ true
  of_near i c e = near_derived delta gamma x i c ∙ e

  same : (a i : ℕ) → i < m → near_by rule gamma i a ≡ fit_of d x i a
  same a i l = near_derived delta gamma x i a

  -- ---- never too long
  pub last_reading_not_too_long : (a : ℕ) → NotTooLong (Place delta gamma x) (LastIs (length x) a) 0 (last_jump (fit_of (d_of delta gamma) x) (length x) a)
  last_reading_not_too_long a =
      long (LastIs m a) 0 _ _ (last_same (near_by rule gamma) (fit_of d x) m a (same a)) (last_by_not_too_long rule m gamma asked.some a)

  pub next_reading_not_too_long : (a : ℕ) → NotTooLong (Place delta gamma x) (NextIs (length x) a) 1 (next_jump (fit_of (d_of delta gamma) x) (length x) a)
  next_reading_not_too_long a =
      long (NextIs m a) 1 _ _ (next_same (near_by rule gamma) (fit_of d x) m a (same a)) (next_by_not_too_long rule m gamma asked.some a)

  pub seen_reading_not_too_long : (a : ℕ) → NotTooLong (Place delta gamma x) (LastIs (length x) a) 1 (seen_jump (fit_of (d_of delta gamma) x) (length x) a)
  seen_reading_not_too_long a =
      long (LastIs m a) 1 _ _ (seen_same (near_by rule gamma) (fit_of d x) m a (same a) asked.some) (seen_by_not_too_long rule m gamma asked.some a)

  alike_last : (i c : ℕ) → i < m - 1 → near d (at last) c ≡ true → near_by rule gamma i c ≡ true → alike (2 * d) (at i) (at last) ≡ true
  alike_last i c l e n = both_near d (at i) (at last) c (near_of i c n) e

  pub after_check_not_too_long : NotTooLong (Place delta gamma x) (LastNear (d_of delta gamma) x) 1 (after_jump (d_of delta gamma) x)
  after_check_not_too_long y s t rd e p place =
      single_passes rule m gamma last m (m - 1) 1 m (λ c. near d (at last) c ≡ true) (λ i. alike (2 * d) (at i) (at last))
      (omega (arith, asked.some)) (omega arith) (omega (arith, asked.some)) (omega (arith, asked.some)) alike_last y s t e p (place_by delta gamma x y t place)

  full_sound : (k : ℕ) → Meets rule m gamma asked.some (λ q c. near d (at q) c ≡ true) (full_at d x) k → full_at d x k ≡ true
  full_sound k ms = is_full d x k (λ i l.
      let n = ms i (omega arith) in
      let e : k + i ≡ i + k = omega arith in
      both_near d (at i) (at (i + k)) n.c (near_of i n.c n.near) (subst (λ (j : ℕ). near d (at j) n.c ≡ true) e n.seen))

  pub full_not_too_long : NotTooLong (Place delta gamma x) (AllNear (d_of delta gamma) x) 1 (full_jump (d_of delta gamma) x)
  unfolding full_jump
  full_not_too_long =
      long (AllNear d x) 1 (full_jump d x) (full_jump d x) refl
      (several_long rule m gamma asked.some (λ q c. near d (at q) c ≡ true) (full_at d x) full_sound)

  module _ (p : ℕ) (point : p < length x) where
    mismatch_sound : (k : ℕ) → Meets rule m gamma asked.some (MismatchedAt d x p) (mismatch_at d x p) k → mismatch_at d x p k ≡ true
    mismatch_sound k ms = is_mismatch d x p k
        (is_lone d x p k (λ h.
        let n = ms (p - k) (omega arith) in
        let e : k + (p - k) ≡ p = omega arith in
        is_lonely d (at (p - k)) (at p) (record {
          c = n.c;
          byte = n.byte;
          near_one = near_of (p - k) n.c n.near;
          not_other = subst (λ (j : ℕ). near d (at j) n.c ≡ false) e (n.seen.itself_far e);
        })))
        (λ q l e. is_agreed d x k q (λ h.
        let n = ms (q - k) (omega arith) in
        let s : q ≡ k + (q - k) = omega arith in
        both_near d (at (q - k)) (at q) n.c (near_of (q - k) n.c n.near)
        (subst (λ (j : ℕ). near d (at j) n.c ≡ true) (sym s) (n.seen.earlier_near (subst (λ (j : ℕ). earlier d x j p ≡ true) s e)))))

    pub mismatch_not_too_long : NotTooLong (Place delta gamma x) (Mismatch (d_of delta gamma) x p) 1 (mismatch_jump (d_of delta gamma) x p)
    unfolding mismatch_jump
    mismatch_not_too_long =
        long (Mismatch d x p) 1 (mismatch_jump d x p) (mismatch_jump d x p) refl
        (several_long rule m gamma asked.some (MismatchedAt d x p) (mismatch_at d x p) mismatch_sound)

  -- ---- never too short
  module _ (bytes : Readings x) where
    self : (i : ℕ) → i < m → near d (at i) (at i) ≡ true
    self i l = near_self d (at i) (asked.real i l)

    homes : Home rule m
    homes = record {
      home = at;
      byte = bytes;
      fits = λ i l. near_self delta (at i) (asked.real i l);
      free = λ i l. omega arith;
    }

    pub last_reading_reaches : (a : ℕ) → a ≤ highest → Reaches (Place delta gamma x) (LastIs (length x) a) (last_jump (fit_of (d_of delta gamma) x) (length x) a)
    last_reading_reaches a h =
        reaches (LastIs m a) _ _ (last_same (near_by rule gamma) (fit_of d x) m a (same a)) (last_by_reaches rule m gamma asked.some a homes asked.few h)

    pub next_reading_reaches : (a : ℕ) → a ≤ highest → Reaches (Place delta gamma x) (NextIs (length x) a) (next_jump (fit_of (d_of delta gamma) x) (length x) a)
    next_reading_reaches a h =
        reaches (NextIs m a) _ _ (next_same (near_by rule gamma) (fit_of d x) m a (same a)) (next_by_reaches rule m gamma asked.some a homes asked.few h)

    pub seen_reading_reaches : (a : ℕ) → a ≤ highest → Reaches (Place delta gamma x) (LastIs (length x) a) (seen_jump (fit_of (d_of delta gamma) x) (length x) a)
    seen_reading_reaches a h =
        reaches (LastIs m a) _ _ (seen_same (near_by rule gamma) (fit_of d x) m a (same a) asked.some) (seen_by_reaches rule m gamma asked.some a homes asked.few h)

    -- a reading near point q that may stand at point i
    meet_both : (q i : ℕ) → q < m → i < m → alike (2 * d) (at i) (at q) ≡ true → Meet rule gamma i (λ c. near d (at q) c ≡ true)
    meet_both q i h l e =
        let b = near_both d (at i) (at q) (bytes i) (bytes q) (asked.real i l) (asked.real q h) e in
        record { c = b.c; byte = b.byte; seen = b.snd; near = of_near i b.c b.fst }

    pub after_check_reaches : Reaches (Place delta gamma x) (LastNear (d_of delta gamma) x) (after_jump (d_of delta gamma) x)
    after_check_reaches =
        reaches (LastNear d x) (after_jump d x) (after_jump d x) refl
        (single_short rule m gamma last m (m - 1) 1 m (λ c. near d (at last) c ≡ true) (λ i. alike (2 * d) (at i) (at last))
        (omega (arith, asked.some)) (omega arith) (omega (arith, asked.some)) (omega (arith, asked.some)) homes (omega (arith, asked.few))
        (λ i l e. meet_both last i (omega (arith, asked.some)) (omega arith) e)
        (record { c = at last; byte = bytes last; seen = self last (omega (arith, asked.some)) }))

    -- ---- the mismatch jump's evidence: a reading for position q where it is not p
    module _ (p : ℕ) where
      other : (q c : ℕ) → (q ≡ p → ⊥) → (earlier d x q p ≡ true → near d (at q) c ≡ true) → MismatchedAt d x p q c
      other q c n f = record { earlier_near = f; itself_far = λ e. absurd (n e) }

      -- and where it is
      at_p : (q c : ℕ) → q ≡ p → near d (at p) c ≡ false → MismatchedAt d x p q c
      at_p q c e f = record {
        earlier_near = λ h. absurd (not_before_itself d x p (subst (λ (j : ℕ). earlier d x j p ≡ true) e h));
        itself_far = λ e'. subst (λ (j : ℕ). near d (at j) c ≡ false) (sym e) f;
      }

      any_of : (q : ℕ) → q < m → Some (MismatchedAt d x p q)
      any_of q l = go (ℕ_discrete q p)
        where
          go : Dec (q ≡ p) → Some (MismatchedAt d x p q)
          go (yes e) = record { c = 0; byte = omega arith; seen = at_p q 0 e (zero_far d (at p)) }
          go (no e) = record { c = at q; byte = bytes q; seen = other q (at q) e (λ h. self q l) }

      -- "A 0 is possible evidence of a mismatch with any point" (#103): it can always occur
      pub mismatch_can_occur : Occurs (Mismatch (d_of delta gamma) x p)
      mismatch_can_occur = occurs (MismatchedAt d x p) m (omega (arith, asked.few)) any_of

    -- what may stand at a point costs at most d
    most : (i a : ℕ) → near_by rule gamma i a ≡ true → diff (at i) a ≤ d
    most i a e = near_le d (at i) a (near_of i a e)

    -- "For the last two the second half needs gamma at least m times d"
    module _ (wide : length x * d_of delta gamma ≤ gamma) where
      full_meets : (k : ℕ) → full_at d x k ≡ true → Meets rule m gamma asked.some (λ q c. near d (at q) c ≡ true) (full_at d x) k
      full_meets k t i l =
          let e : i + k ≡ k + i = omega arith in
          meet_both (k + i) i l (omega arith) (subst (λ (j : ℕ). alike (2 * d) (at i) (at j) ≡ true) e (full_is d x k t i (omega arith)))

      pub full_reaches : Reaches (Place delta gamma x) (AllNear (d_of delta gamma) x) (full_jump (d_of delta gamma) x)
      unfolding full_jump
      full_reaches =
          reaches (AllNear d x) (full_jump d x) (full_jump d x) refl
          (several_short rule m gamma asked.some (λ q c. near d (at q) c ≡ true) (full_at d x) full_sound (omega (arith, asked.few)) homes full_meets
          (λ q l. record { c = at q; byte = bytes q; seen = self q l }) d most wide)

      module _ (p : ℕ) (point : p < length x) where
        mismatch_meets : (k : ℕ) → mismatch_at d x p k ≡ true → Meets rule m gamma asked.some (MismatchedAt d x p) (mismatch_at d x p) k
        mismatch_meets k t i l = go (ℕ_discrete (k + i) p)
          where
            go : Dec (k + i ≡ p) → Meet rule gamma i (MismatchedAt d x p (k + i))
            go (yes e) =
                let s : p - k ≡ i = omega arith in
                let n = lonely_is d (at i) (at p)
                (subst (λ (j : ℕ). lonely d (at j) (at p) ≡ true) s (lone_is d x p k (mismatch_lone d x p k t) (omega arith))) in
                record { c = n.c; byte = n.byte; seen = at_p p (k + i) n.c e n.not_other; near = of_near i n.c n.near_one }
            go (no e) = ⊎_elim
                (λ (h : earlier d x (k + i) p ≡ true).
                let s : k + i - k ≡ i = omega arith in
                let n = meet_both (k + i) i l (omega arith) (subst (λ (j : ℕ). alike (2 * d) (at j) (at (k + i)) ≡ true) s
                (agrees_is d x k (k + i) (mismatch_agrees d x p k t (k + i) l h) (omega arith))) in
                record { c = n.c; byte = n.byte; seen = other p (k + i) n.c e (λ h'. n.seen); near = n.near })
                (λ (h : earlier d x (k + i) p ≡ false). record {
                  c = at i;
                  byte = bytes i;
                  seen = other p (k + i) (at i) e (λ h'. absurd (not_both h' h));
                  near = of_near i (at i) (self i (omega arith));
                })
                (either (earlier d x (k + i) p))

        pub mismatch_reaches : Reaches (Place delta gamma x) (Mismatch (d_of delta gamma) x p) (mismatch_jump (d_of delta gamma) x p)
        unfolding mismatch_jump
        mismatch_reaches =
            reaches (Mismatch d x p) (mismatch_jump d x p) (mismatch_jump d x p) refl
            (several_short rule m gamma asked.some (MismatchedAt d x p) (mismatch_at d x p) (mismatch_sound p point) (omega (arith, asked.few)) homes mismatch_meets
            (any_of p) d most wide)
