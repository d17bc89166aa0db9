-- `card::changing::kept_guid` meets its contract. Assumes nothing.
use native.Mathlib.Omega.{arith}
use Rattle.tables.specs.Lens.{side_of}
use Rattle.card.proofs.CopyLaws.{guid-kept}
use Rattle.card.proofs.changing.kept_guid.Goals as goal

pub guid_at-requires : goal.guid_at-requires
guid_at-requires c = omega (arith, c.header_in-at.ensures.1, c.requires.0, c.requires.1)

pub returns : goal.returns
returns c =
    let a = c.args in
    guid-kept a.b (side_of a.back) a.copy.now c.header_in-at.ensures.0 c.requires.0 c.requires.1 (λ i. omega (arith, c.type_inv.copy i)) c.guid_at.ensures
