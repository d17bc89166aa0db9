-- `header::find_backup_lba` meets its contract. Assumes nothing.
use native.Mathlib.Omega.{arith}
use borrow.Author.Tests.{lt-ltb}
use Rattle.header.specs.Reading.{backup_block}
use Rattle.units.proofs.Laws.{size-past}
use Rattle.header.proofs.Ways.{backup-found}
use Rattle.std.proofs.Common.{ap}
use Rattle.std.specs.Prelude.{not}
use Rattle.header.proofs.find_backup_lba.Goals as goal

pub returns-then-not-good_block_size : goal.returns-then-not-good_block_size
unfolding backup_block
returns-then-not-good_block_size c = rw (← c.good_block_size.ensures, (ap not c.if-not-good_block_size.true))

pub overflow_mul-size : goal.overflow_mul-size
overflow_mul-size c = let p = size-past _ c.good_block_size.ensures (ap not c.if-not-good_block_size.false) in omega arith

pub returns-then-len-size : goal.returns-then-len-size
unfolding backup_block
returns-then-len-size c = rw (← c.good_block_size.ensures, (ap not c.if-not-good_block_size.false), lt-ltb _ _ c.if-len-size.true)

pub returns : goal.returns
returns c = backup-found _ _ _ c.good_block_size.ensures (ap not c.if-not-good_block_size.false) c.if-len-size.false c.block.ensures
