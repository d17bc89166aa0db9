-- `staged::inner::store_repair` meets its contract: a block of the array, or at the last stage the header. Assumes nothing.
use native.Mathlib.Omega.{arith}
use Rattle.tables.proofs.Good.{room-ok}
use Rattle.staged.proofs.Places.{repair-block, repair-header}
use Rattle.staged.proofs.inner.store_repair.Goals as goal

pub overflow_sub-j : goal.overflow_sub-j
overflow_sub-j c = omega (arith, c.requires.le_k.0)

pub nonzero_div-r : goal.nonzero_div-r
nonzero_div-r c = omega (arith, (room-ok _ _ c.requires.len_value.0).least)

pub store_block-requires : goal.store_block-requires
store_block-requires c = (rw c.requires.len_value.1 c.requires.len_value.0, c.if-j-r.true)

pub returns-then-j-r : goal.returns-then-j-r
returns-then-j-r c =
    let a = c.args in
    repair-block a.r a.k a.img.now c.requires.len_value.1 c.requires.le_k.0 c.if-j-r.true c.store_block.ensures

pub store_header-requires : goal.store_header-requires
store_header-requires c = rw c.requires.len_value.1 c.requires.len_value.0

pub returns : goal.returns
returns c =
    let a = c.args in
    repair-header a.r a.k a.img.now c.requires.len_value.1 c.requires.le_k.0 c.requires.le_k.1 c.if-j-r.false c.store_header.ensures
