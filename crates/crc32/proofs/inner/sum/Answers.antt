-- `inner::sum` meets its contract: the running value is inverted before the first byte, and the register after the last.
-- Assumes nothing.
use mathlib.Core.Path.{ap}
use Rattle.crc32.specs.Crc.{finish, crc_from}
use Rattle.crc32.proofs.inner.sum.Goals as goal

pub returns : goal.returns
unfolding crc_from finish
returns c = ap finish c.run.ensures
