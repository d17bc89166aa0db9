-- `units::read_guid` meets its contract. Assumes nothing.
use Rattle.units.specs.Guids.{guid_read}
use Rattle.units.proofs.Laws.{inside-yes}
use Rattle.std.proofs.Common.{ap}
use Rattle.std.specs.Prelude.{not}
use Rattle.units.proofs.read_guid.Goals as goal

pub returns-then-not-is_inside : goal.returns-then-not-is_inside
unfolding guid_read
returns-then-not-is_inside c = rw (← c.is_inside.ensures, (ap not c.if-not-is_inside.true))

pub guid_at-requires : goal.guid_at-requires
guid_at-requires c = inside-yes _ _ _ c.is_inside.ensures (ap not c.if-not-is_inside.false)

pub returns : goal.returns
unfolding guid_read
returns c = rw (← c.is_inside.ensures, (ap not c.if-not-is_inside.false), c.guid_at.ensures)
