-- `tables::inner::card_header` meets its contract. Assumes nothing.
use native.Mathlib.Omega.{arith}
use Rattle.tables.proofs.Good.{room-ok}
use Rattle.tables.proofs.inner.card_header.Goals as goal

pub first_usable-requires : goal.first_usable-requires
first_usable-requires c = let r = room-ok _ _ c.requires in omega (arith, r.least)

pub returns : goal.returns
returns c =
    rw (
      c.array_start.ensures,
      c.last_usable.ensures,
      c.first_usable.ensures,
      c.other_block.ensures,
      c.own_block.ensures,
    )
