-- `mbr::inner::store_bytes` meets its contract. Assumes nothing.
use Rattle.units.specs.Answer.{ends}
use Rattle.units.proofs.Laws.{inside-yes}
use Rattle.mbr.specs.Storing.{bytes_stored}
use Rattle.std.proofs.Common.{ap}
use Rattle.std.specs.Prelude.{not}
use Rattle.mbr.proofs.inner.store_bytes.Goals as goal

pub returns-then-not-is_inside : goal.returns-then-not-is_inside
unfolding bytes_stored
returns-then-not-is_inside c = ends (rw (← c.is_inside.ensures, (ap not c.if-not-is_inside.true)))

pub put_bytes-requires : goal.put_bytes-requires
put_bytes-requires c = inside-yes _ _ _ c.is_inside.ensures (ap not c.if-not-is_inside.false)

pub returns : goal.returns
unfolding bytes_stored
returns c = ends (rw (← c.is_inside.ensures, (ap not c.if-not-is_inside.false), c.put_bytes.ensures))
