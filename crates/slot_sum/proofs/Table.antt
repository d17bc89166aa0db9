-- The constants hold what they have to: antt computes the first, and each later one as the square of the one before it. Assumes nothing.
use mathlib.Core.Path.{refl}
use Rattle.slot_sum.specs.declared.inner.TheConstants.{POWERS}
use Rattle.slot_sum.specs.Powers.{Powers}
use Rattle.crc32.specs.Crc.{polynomial, step, steps}
use Rattle.crc32.proofs.Product.{product}
use Rattle.slot_sum.proofs.Halving.{powers-rule}

pub powers-right : Powers 20 POWERS
unfolding polynomial step steps product
powers-right = powers-rule 20 _ _ refl refl tt
