-- `inner::one` meets its contract: one byte over the register, by the first row.
-- Assumes nothing.
use lib.Bits.{bit_xor}
use Rattle.crc32.proofs.Laws.{one_byte}
use Rattle.crc32.proofs.inner.one.Goals as goal

pub returns : goal.returns
returns c = let a = c.args in cc (one_byte (bit_xor a.r a.b))
