-- The tables hold what they have to: antt computes the first row's rule, and each later row's from the row before it; of the powers the second, and each
-- later one as the one before it times the second. Assumes nothing.
use mathlib.Core.Path.{refl}
use Rattle.crc32.specs.declared.rows.TheConstants.{ROWS}
use Rattle.crc32.specs.declared.powers.TheConstants.{POWERS}
use Rattle.crc32.specs.Crc.{polynomial, step, steps}
use Rattle.crc32.specs.Rows.{Rows, Chunks}
use Rattle.crc32.proofs.Entries.{rows}
use Rattle.crc32.proofs.Product.{product}
use Rattle.crc32.proofs.Zeros.{chunks-rule}

pub rows-right : Rows 16 ROWS
unfolding polynomial step steps
rows-right = rows 16 ROWS refl tt tt

pub powers-right : Chunks 129 POWERS
unfolding polynomial step steps product
powers-right = chunks-rule 129 _ _ _ refl refl refl tt
