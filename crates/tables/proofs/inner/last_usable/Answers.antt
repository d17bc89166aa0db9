-- `tables::inner::last_usable` meets its contract. Assumes nothing.
use native.Mathlib.Omega.{arith}
use Rattle.tables.specs.Places.{last_usable_of}
use Rattle.tables.proofs.Good.{room-ok}
use Rattle.tables.proofs.inner.last_usable.Goals as goal

pub block_count-requires : goal.block_count-requires
block_count-requires c = let r = room-ok _ _ c.requires in omega (arith, r.least)

pub nonzero_div-result : goal.nonzero_div-result
nonzero_div-result c = let r = room-ok _ _ c.requires in omega (arith, r.least)

pub overflow_sub-result : goal.overflow_sub-result
overflow_sub-result c = let r = room-ok _ _ c.requires in omega (arith, r.count, c.block_count.ensures)

pub overflow_sub-result-2 : goal.overflow_sub-result-2
overflow_sub-result-2 c = let r = room-ok _ _ c.requires in omega (arith, r.count, c.block_count.ensures)

pub returns : goal.returns
unfolding last_usable_of
returns c = rw c.block_count.ensures
