-- `listing::inner::used_after` meets its contract. Assumes nothing.
use Rattle.tables.proofs.Good.{room-ok}
use Rattle.listing.proofs.Ways.{array-inside, next-found}
use Rattle.listing.proofs.inner.used_after.Goals as goal

pub front_array-array-requires : goal.front_array-array-requires
front_array-array-requires c = (room-ok _ _ c.requires).most

pub next_present-requires : goal.next_present-requires
next_present-requires c = let a = c.args in array-inside a.b a.img.now c.requires c.front_array-array.ensures

pub returns : goal.returns
returns c = let a = c.args in next-found a.b a.img.now a.after.0 c.front_array-array.ensures c.next_present.ensures
