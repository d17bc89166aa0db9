-- `staged::inner::store_block` meets its contract: a block of one array over that of the other. Assumes nothing.
use mathlib.Core.Path.{◌∙◌}
use Prim.Native.Nat.{◌+◌, ◌*◌}
use native.Mathlib.Omega.{arith}
use lib.ListN.{length}
use Rattle.tables.proofs.Good.{room-ok}
use Rattle.staged.proofs.Places.{block_inside, block-is, copied}
use Rattle.staged.proofs.inner.store_block.Goals as goal

pub array_byte_place-from-requires : goal.array_byte_place-from-requires
array_byte_place-from-requires c = c.requires.0

pub array_byte_place-to-requires : goal.array_byte_place-to-requires
array_byte_place-to-requires c = c.requires.0

pub overflow_mul-skip : goal.overflow_mul-skip
overflow_mul-skip c = omega (arith, (block_inside c.args.b (length c.args.img.now) c.args.j (room-ok _ _ c.requires.0) c.requires.1))

pub overflow_add-start : goal.overflow_add-start
overflow_add-start c = omega (arith, (block_inside c.args.b (length c.args.img.now) c.args.j (room-ok _ _ c.requires.0) c.requires.1), c.array_byte_place-from.ensures.1)

pub overflow_add-start-2 : goal.overflow_add-start-2
overflow_add-start-2 c = omega (arith, (block_inside c.args.b (length c.args.img.now) c.args.j (room-ok _ _ c.requires.0) c.requires.1), c.array_byte_place-from.ensures.1)

pub overflow_add-to : goal.overflow_add-to
overflow_add-to c = omega (arith, (block_inside c.args.b (length c.args.img.now) c.args.j (room-ok _ _ c.requires.0) c.requires.1), c.array_byte_place-to.ensures.1)

pub returns : goal.returns
returns c =
    let a = c.args in
    let inside = block_inside a.b (length a.img.now) a.j (room-ok _ _ c.requires.0) c.requires.1 in
    c.copy_within.ensures.after
    ∙ copied a.img.now (c.array_byte_place-from.result.0 + a.j * a.b) (c.array_byte_place-to.result.0 + a.j * a.b) a.b
    (omega (arith, inside, c.array_byte_place-from.ensures.1)) (omega (arith, inside, c.array_byte_place-to.ensures.1))
    ∙ block-is a.b (length a.img.now) a.back a.j a.img.now c.array_byte_place-from.ensures.0 c.array_byte_place-to.ensures.0
