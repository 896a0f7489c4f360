-- `counters::low_bits` meets its contract: of 32 bits, those that are no leading zeros are the low bits.
use native.Mathlib.Omega.{arith}
use Rattle.counters.proofs.Laws.Widths.{low_bits_length}
use Rattle.counters.proofs.low_bits.Goals as goal

pub returns : goal.returns
returns c = (omega (arith, low_bits_length 32 c.args.g c.ranges.g.fits), omega arith)
