-- `staged::inner::repair_by` meets its contract: the GUID and the sum that the header of a table that passes has. Assumes nothing.
use native.Mathlib.Omega.{arith}
use Rattle.tables.specs.Lens.{side_of}
use Rattle.tables.proofs.Good.{room-ok}
use Rattle.card.proofs.CopyLaws.{sum-held}
use Rattle.staged.proofs.Ways.{repair-made}
use Rattle.staged.proofs.inner.repair_by.Goals as goal

pub kept_guid-guid-requires : goal.kept_guid-guid-requires
kept_guid-guid-requires c = (omega (arith, (room-ok _ _ c.requires.len_value.0).least), c.requires.len_value.1)

pub get-parts-requires : goal.get-parts-requires
get-parts-requires c = omega (arith, c.header_in-at.ensures.1, (room-ok _ _ c.requires.len_value.0).least, c.requires.len_value.1)

pub returns : goal.returns
returns c =
    let a = c.args in
    λ f q.
    repair-made a.b a.len f a.back a.copy.now q c.kept_guid-guid.ensures.fields
    (sum-held a.b a.len (side_of a.back) a.copy.now c.header_in-at.ensures.0 (omega (arith, (room-ok _ _ c.requires.len_value.0).least)) c.requires.copy_value c.get-parts.ensures)
