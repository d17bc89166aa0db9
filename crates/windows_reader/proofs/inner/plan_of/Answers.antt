-- `windows_reader::inner::plan_of` meets its contract. Assumes nothing.
use Rattle.reader.proofs.Ways.{array-inside}
use Rattle.windows_reader.proofs.LentRow.{part-short, part-listed}
use Rattle.windows_reader.proofs.inner.plan_of.Goals as goal

pub returns-then-part-lt16384 : goal.returns-then-part-lt16384
returns-then-part-lt16384 c = let a = c.args in part-short a.part.now c.if-part-lt16384.true c.refused_plainly.ensures

pub listing-requires : goal.listing-requires
listing-requires c = array-inside _ 0 c.if-part-lt16384.false

pub returns : goal.returns
returns c = let a = c.args in part-listed a.part.now c.if-part-lt16384.false c.listing.ensures
