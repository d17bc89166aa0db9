-- `reader::next_used` meets its contract. Assumes nothing.
use native.Mathlib.Omega.{arith}
use Rattle.units.proofs.Lists.{length-lent}
use Rattle.reader.proofs.Ways.{refuses, room, next-given, lent-array, whole-array}
use Rattle.reader.proofs.next_used.Goals as goal

pub returns-then-found-ne0 : goal.returns-then-found-ne0
returns-then-found-ne0 c =
    let a = c.args in
    refuses a.b a.img.now c.choose-found.ensures.0 _ c.if-found-ne0.true c.refusal.ensures

pub array_byte_place-at-requires : goal.array_byte_place-at-requires
array_byte_place-at-requires c = let a = c.args in room a.b a.img.now c.choose-found.ensures.0 c.if-found-ne0.false

pub slice_bounds-next_present-end : goal.slice_bounds-next_present-end
slice_bounds-next_present-end c = omega (arith, c.array_byte_place-at.ensures.1)

pub next_present-requires : goal.next_present-requires
next_present-requires c = let a = c.args in whole-array _ (length-lent a.img.now c.array_byte_place-at.result.0 16384 c.array_byte_place-at.ensures.1)

pub returns : goal.returns
returns c =
    let a = c.args in
    let z = c.if-found-ne0.false in
    next-given a.b a.img.now c.choose-found.ensures.0 z a.after.0 (lent-array a.b a.img.now (c.choose-found.ensures.1 z) c.array_byte_place-at.ensures.0) c.next_present.ensures
