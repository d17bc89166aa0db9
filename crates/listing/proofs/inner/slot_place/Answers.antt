-- `listing::inner::slot_place` meets its contract. Assumes nothing.
use native.Mathlib.Omega.{arith}
use Rattle.tables.proofs.Good.{slot_ok}
use Rattle.listing.proofs.inner.slot_place.Goals as goal

pub entry_place-requires : goal.entry_place-requires
entry_place-requires c =
    let s = c in
    omega (arith, (slot_ok s.args.slot.0 s.requires.1).1, s.requires.0, c.array_place-k.ensures, c.front_array.ensures)

pub returns : goal.returns
returns c = omega (arith, c.entry_place.ensures, c.array_place-k.ensures, c.front_array.ensures)
