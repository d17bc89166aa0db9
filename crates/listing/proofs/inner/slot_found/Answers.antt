-- `listing::inner::slot_found` meets its contract. Assumes nothing.
use Rattle.tables.proofs.Good.{room-ok}
use Rattle.listing.proofs.Ways.{slot-inside-image, found-read}
use Rattle.listing.proofs.inner.slot_found.Goals as goal

pub slot_place-at-requires : goal.slot_place-at-requires
slot_place-at-requires c = let p = c.requires in ((room-ok _ _ p.0).most, p.1)

pub entry_if_present-requires : goal.entry_if_present-requires
entry_if_present-requires c =
    let s = c in
    slot-inside-image s.args.b s.args.img.now s.requires.0 s.args.slot.0 s.requires.1 c.slot_place-at.ensures

pub returns : goal.returns
returns c = let a = c.args in found-read a.b a.img.now a.slot.0 c.requires.1 c.slot_place-at.ensures c.entry_if_present.ensures
