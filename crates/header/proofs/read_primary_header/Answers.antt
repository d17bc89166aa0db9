-- `header::read_primary_header` meets its contract. Assumes nothing.
use Rattle.header.specs.Reading.{primary_read}
use Rattle.std.proofs.Common.{ap}
use Rattle.std.specs.Prelude.{not}
use Rattle.header.proofs.read_primary_header.Goals as goal

pub returns-then-not-good_block_size : goal.returns-then-not-good_block_size
unfolding primary_read
returns-then-not-good_block_size c = rw (← c.good_block_size.ensures, (ap not c.if-not-good_block_size.true))

pub returns : goal.returns
unfolding primary_read
returns c = rw (← c.good_block_size.ensures, (ap not c.if-not-good_block_size.false)) c.read_header.ensures
