-- `carry::one_bit` meets its contract: it is the step itself. Assumes nothing.
use mathlib.Core.Path.{refl}
use Rattle.crc32.specs.Crc.{polynomial, step}
use Rattle.crc32.proofs.carry.one_bit.Goals as goal

pub returns : goal.returns
unfolding polynomial step
returns c = refl
