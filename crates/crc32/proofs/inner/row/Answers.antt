-- `inner::row` meets its contract: the table's rule at its place.
-- Assumes nothing.
use Rattle.crc32.proofs.Tables.{rows-right}
use Rattle.crc32.proofs.inner.row.Goals as goal

pub returns : goal.returns
returns c = rows-right.entry c.args.j c.args.k c.requires.0 c.requires.1
