-- `reader::inner::plan_of` meets its contract. Assumes nothing.
use Rattle.reader.proofs.Ways.{room, array-inside}
use Rattle.reader.proofs.LentRow.{plan-refused, plan-listed}
use Rattle.reader.proofs.inner.plan_of.Goals as goal

pub returns-then-found-ne0 : goal.returns-then-found-ne0
returns-then-found-ne0 c =
    let a = c.args in
    plan-refused a.b a.img.now c.choose-found.ensures.0 c.if-found-ne0.true c.refusal.ensures c.refused_plainly.ensures

pub array_byte_place-requires : goal.array_byte_place-requires
array_byte_place-requires c = let a = c.args in room a.b a.img.now c.choose-found.ensures.0 c.if-found-ne0.false

pub listing-requires : goal.listing-requires
listing-requires c = array-inside _ _ c.array_byte_place.ensures.1

pub returns : goal.returns
returns c =
    let a = c.args in
    let z = c.if-found-ne0.false in
    plan-listed a.b a.img.now c.choose-found.ensures.0 z (c.choose-found.ensures.1 z) c.array_byte_place.ensures.0 c.listing.ensures
