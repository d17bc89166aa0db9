-- `reader::read_slot` meets its contract. Assumes nothing.
use mathlib.Core.Path.{sym, ◌∙◌}
use native.Mathlib.Omega.{arith}
use Rattle.units.proofs.Lists.{length-lent}
use Rattle.reader.proofs.Ways.{room, read-refused, read-bad, read-given, lent-array}
use Rattle.reader.proofs.read_slot.Goals as goal

pub returns-then-found-ne0 : goal.returns-then-found-ne0
returns-then-found-ne0 c =
    let a = c.args in
    read-refused a.b a.img.now c.choose-found.ensures.0 a.slot.0 c.if-found-ne0.true c.refusal.ensures

pub returns-then-bad_slot : goal.returns-then-bad_slot
returns-then-bad_slot c =
    let a = c.args in
    read-bad a.b a.img.now c.choose-found.ensures.0 c.if-found-ne0.false a.slot.0 c.bad_slot.ensures c.if-bad_slot.true

pub array_byte_place-at-requires : goal.array_byte_place-at-requires
array_byte_place-at-requires c = let a = c.args in room a.b a.img.now c.choose-found.ensures.0 c.if-found-ne0.false

pub slice_bounds-slot_in-end : goal.slice_bounds-slot_in-end
slice_bounds-slot_in-end c = omega (arith, c.array_byte_place-at.ensures.1)

pub slot_in-requires : goal.slot_in-requires
slot_in-requires c =
    let a = c.args in
    (length-lent a.img.now c.array_byte_place-at.result.0 16384 c.array_byte_place-at.ensures.1, sym c.bad_slot.ensures ∙ c.if-bad_slot.false)

pub returns : goal.returns
returns c =
    let a = c.args in
    let z = c.if-found-ne0.false in
    read-given a.b a.img.now c.choose-found.ensures.0 z a.slot.0 c.bad_slot.ensures c.if-bad_slot.false (lent-array a.b a.img.now (c.choose-found.ensures.1 z) c.array_byte_place-at.ensures.0) c.slot_in.ensures
