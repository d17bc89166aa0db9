-- `units::store_guid` meets its contract. Assumes nothing.
use Rattle.units.specs.Answer.{ends}
use Rattle.units.specs.Guids.{guid_stored}
use Rattle.units.proofs.Laws.{inside-yes}
use Rattle.std.proofs.Common.{ap}
use Rattle.std.specs.Prelude.{not}
use Rattle.units.proofs.store_guid.Goals as goal

pub returns-then-not-is_inside : goal.returns-then-not-is_inside
unfolding guid_stored
returns-then-not-is_inside c = ends (rw (← c.is_inside.ensures, (ap not c.if-not-is_inside.true)))

pub put_guid-requires : goal.put_guid-requires
put_guid-requires c = inside-yes _ _ _ c.is_inside.ensures (ap not c.if-not-is_inside.false)

pub returns : goal.returns
unfolding guid_stored
returns c =
    ends
    (rw (
      ← c.is_inside.ensures,
      (ap not c.if-not-is_inside.false),
      c.put_guid.ensures,
    ))
