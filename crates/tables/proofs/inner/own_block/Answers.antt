-- `tables::inner::own_block` meets its contract. Assumes nothing.
use native.Mathlib.Omega.{arith}
use Rattle.tables.proofs.Good.{room-ok}
use Rattle.tables.proofs.inner.own_block.Goals as goal

pub block_count-requires : goal.block_count-requires
block_count-requires c = let r = room-ok _ _ c.requires in omega (arith, r.least)

pub overflow_sub-result : goal.overflow_sub-result
overflow_sub-result c = let r = room-ok _ _ c.requires in omega (arith, r.count, c.block_count.ensures)

pub returns-then-back : goal.returns-then-back
returns-then-back c = rw (c.if-back.true, c.block_count.ensures)

pub returns : goal.returns
returns c = rw c.if-back.false
