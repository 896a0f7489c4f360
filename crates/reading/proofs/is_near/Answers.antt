-- `reading::is_near` meets its contract: what is below the lowest reading is near to no point; of any other, a + d - p decides. Assumes nothing.
use Rattle.std.proofs.Common.{◌≡◌, ℕ, ◌+◌, ◌-◌, ◌*◌, ◌%◌, ◌^◌, ◌<◌, ◌≤◌, false, leb, sym, ◌∙◌, arith, le-leb, leb-true}
use borrow.Author.Tests.{lt-leb}
use Rattle.fit.specs.Reading.{diff, near}
use Rattle.fit.proofs.Laws.Bools.{same_test}
use Rattle.reading.proofs.is_near.Goals as goal

reached : (d p a : ℕ) → d < 2 ^ 32 → p < 2 ^ 8 → a < 2 ^ 8 → leb ((a + d + (2 ^ 64 - p)) % 2 ^ 64) (2 * d) ≡ leb (diff p a) d
reached d p a hd hp ha =
    let r = (a + d + (2 ^ 64 - p)) % 2 ^ 64 in
    same_test (leb r (2 * d)) (leb (diff p a) d) (λ t. le-leb (diff p a) d (omega (arith, leb-true r (2 * d) t)))
    (λ t. le-leb r (2 * d) (omega (arith, leb-true (diff p a) d t)))

lost : (d p a : ℕ) → a < 1 → near d p a ≡ false
unfolding near
lost d p a h = rw (lt-leb 1 a h)

told : (d p a : ℕ) → 1 ≤ a → near d p a ≡ leb (diff p a) d
unfolding near
told d p a h = rw (le-leb 1 a h)

pub returns-then-a-lt-LOWEST : goal.returns-then-a-lt-LOWEST
returns-then-a-lt-LOWEST c = let a = c.args in sym (lost a.d a.p a.a c.if-a-lt-LOWEST.true)

pub returns : goal.returns
returns c =
    let a = c.args in
    rw (c.from.ensures, c.from-reach.ensures, c.from-2.ensures) (reached a.d a.p a.a (omega arith) (omega arith) (omega arith)
    ∙ sym (told a.d a.p a.a c.if-a-lt-LOWEST.false))
