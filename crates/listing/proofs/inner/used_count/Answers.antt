-- `listing::inner::used_count` meets its contract. Assumes nothing.
use Rattle.tables.proofs.Good.{room-ok}
use Rattle.listing.proofs.Ways.{array-inside, counted}
use Rattle.listing.proofs.inner.used_count.Goals as goal

pub front_array-array-requires : goal.front_array-array-requires
front_array-array-requires c = (room-ok _ _ c.requires).most

pub count_present-requires : goal.count_present-requires
count_present-requires c = let a = c.args in array-inside a.b a.img.now c.requires c.front_array-array.ensures

pub returns : goal.returns
returns c = let a = c.args in counted a.b a.img.now c.front_array-array.ensures c.count_present.ensures
