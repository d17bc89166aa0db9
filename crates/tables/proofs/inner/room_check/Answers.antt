-- `tables::inner::room_check` meets its contract: the tests are those of the definition, in its order. Assumes nothing.
use native.Mathlib.Nat.{div-le_self}
use native.Mathlib.Omega.{arith}
use Rattle.units.proofs.Laws.{size-past}
use Rattle.tables.proofs.RoomWays.{room-size, room-short, room-early, room-fine, some-blocks}
use Rattle.std.proofs.Common.{ap}
use Rattle.std.specs.Prelude.{not}
use Rattle.tables.proofs.inner.room_check.Goals as goal

pub returns-then-not-good_block_size : goal.returns-then-not-good_block_size
returns-then-not-good_block_size c = room-size _ _ c.good_block_size.ensures (ap not c.if-not-good_block_size.true)

pub overflow_mul-b : goal.overflow_mul-b
overflow_mul-b c = let p = size-past _ c.good_block_size.ensures (ap not c.if-not-good_block_size.false) in omega (arith, p.1)

pub returns-then-len-b : goal.returns-then-len-b
returns-then-len-b c = room-short _ _ c.good_block_size.ensures (ap not c.if-not-good_block_size.false) c.if-len-b.true

pub block_count-requires : goal.block_count-requires
block_count-requires c = let p = size-past _ c.good_block_size.ensures (ap not c.if-not-good_block_size.false) in omega (arith, p.0)

pub overflow_sub-block_count : goal.overflow_sub-block_count
overflow_sub-block_count c =
    let g = c.good_block_size.ensures in
    let p = size-past _ g (ap not c.if-not-good_block_size.false) in
    omega (arith, some-blocks _ _ g (ap not c.if-not-good_block_size.false) c.if-len-b.false (omega arith), c.block_count.ensures)

pub nonzero_div-b : goal.nonzero_div-b
nonzero_div-b c = let p = size-past _ c.good_block_size.ensures (ap not c.if-not-good_block_size.false) in omega (arith, p.0)

pub overflow_mul-b-2 : goal.overflow_mul-b-2
overflow_mul-b-2 c = omega (arith, div-le_self 16384 c.args.b)

pub overflow_add-b : goal.overflow_add-b
overflow_add-b c = omega (arith, div-le_self 16384 c.args.b)

pub returns-then-block_count-b : goal.returns-then-block_count-b
returns-then-block_count-b c =
    let k = c in
    room-early _ _ k.good_block_size.ensures (ap not k.if-not-good_block_size.false) k.if-len-b.false (rw k.block_count.ensures at c.if-block_count-b.true)

pub returns : goal.returns
returns c =
    let k = c in
    room-fine _ _ k.good_block_size.ensures (ap not k.if-not-good_block_size.false) k.if-len-b.false (rw k.block_count.ensures at c.if-block_count-b.false)
