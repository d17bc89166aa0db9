-- `card::changing::sum_with` meets its contract. Assumes nothing.
use native.Mathlib.Omega.{arith}
use Rattle.tables.specs.Lens.{side_of}
use Rattle.tables.proofs.Good.{room-ok}
use Rattle.card.proofs.CopyLaws.{sum-held, sum-changed}
use Rattle.card.proofs.changing.sum_with.Goals as goal

pub get-sum-requires : goal.get-sum-requires
get-sum-requires c =
    let r = room-ok _ _ c.requires.len_value.0 in
    omega (arith, r.least, c.header_in-header.ensures.1, c.requires.len_value.1)

pub slot_in-place-requires : goal.slot_in-place-requires
slot_in-place-requires c = let r = room-ok _ _ c.requires.len_value.0 in (r.most, c.requires.slot_value.0)

pub bytes_after-after-requires : goal.bytes_after-after-requires
bytes_after-after-requires c = c.requires.slot_value.0

pub slice_bounds-sum_after-end : goal.slice_bounds-sum_after-end
slice_bounds-sum_after-end c = omega (arith, c.slot_in-place.ensures.1, c.requires.len_value.1)

pub returns : goal.returns
returns c =
    let a = c.args in
    let r = room-ok _ _ c.requires.len_value.0 in
    sum-changed a.b (side_of a.back) a.copy.now a.e.now a.slot.0 c.requires.slot_value.0 c.requires.len_value.1 c.requires.slot_value.1
    (sum-held a.b a.len (side_of a.back) a.copy.now c.header_in-header.ensures.0 (omega (arith, r.least)) c.requires.copy_value c.get-sum.ensures)
    c.slot_in-place.ensures.0 c.bytes_after-after.ensures c.sum_after.ensures
