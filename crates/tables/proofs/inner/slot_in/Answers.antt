-- `tables::inner::slot_in` meets its contract. Assumes nothing.
use native.Mathlib.Omega.{arith}
use Rattle.tables.proofs.Good.{slot_ok}
use Rattle.tables.proofs.inner.slot_in.Goals as goal

pub entry_place-requires : goal.entry_place-requires
entry_place-requires c =
    let s = c in
    let o = slot_ok s.args.slot.0 s.requires.1 in
    omega (arith, o.1, s.requires.0, c.array_place-k.ensures, c.array_in.ensures.1)

pub returns : goal.returns
returns c =
    let s = c in
    let o = slot_ok s.args.slot.0 s.requires.1 in
    let k = c.array_place-k.ensures in
    let a = c.array_in.ensures in
    (omega (arith, c.entry_place.ensures, k, a.0), omega (arith, c.entry_place.ensures, o.1, k, a.1))
