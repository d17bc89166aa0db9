-- `listing::read_slot` meets its contract. Assumes nothing.
use Rattle.listing.proofs.Ways.{slot-refused, slot-tested, slot-given}
use Rattle.listing.proofs.read_slot.Goals as goal

pub returns-then-found-ne0 : goal.returns-then-found-ne0
returns-then-found-ne0 c = let a = c.args in slot-refused a.b a.img.now a.slot.0 c.slot_check-found.ensures c.if-found-ne0.true c.reason.ensures

pub slot_found-requires : goal.slot_found-requires
slot_found-requires c = let a = c.args in slot-tested a.b a.img.now a.slot.0 c.slot_check-found.ensures c.if-found-ne0.false

pub returns : goal.returns
returns c = let a = c.args in slot-given a.b a.img.now a.slot.0 c.slot_check-found.ensures c.if-found-ne0.false c.slot_found.ensures
