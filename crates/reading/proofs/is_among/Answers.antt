-- `reading::is_among` meets its contract. Assumes nothing.
use Rattle.std.proofs.Common.{◌≡◌, ℕ, ◌+◌, ◌-◌, ◌%◌, leb, ap, arith}
use Rattle.reading.proofs.is_among.Goals as goal

pub returns : goal.returns
returns c =
    let given = c.args in
    let wrapped : given.a + (256 - given.least) ≡ given.a + 256 - given.least = omega arith in
    (ap (λ (w : ℕ). leb (w % 256) given.more) wrapped, omega arith)
