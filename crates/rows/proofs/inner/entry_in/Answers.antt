-- `rows::inner::entry_in` meets its contract. Assumes nothing.
use native.Mathlib.Omega.{arith}
use Rattle.rows.proofs.Laws.{slot-ends, entry-ends, entry_read}
use Rattle.rows.proofs.inner.entry_in.Goals as goal

pub entry_place-place-requires : goal.entry_place-place-requires
entry_place-place-requires c =
    let a = c.args in
    (c.requires.1, omega (arith, slot-ends a.img.now a.p a.s c.requires.0 c.requires.1))

pub entry_at-partition-requires : goal.entry_at-partition-requires
entry_at-partition-requires c =
    let a = c.args in
    entry-ends a.img.now a.p a.s c.requires.0 c.requires.1 c.entry_place-place.ensures

pub returns : goal.returns
returns c =
    let a = c.args in
    entry_read a.img.now a.p a.s c.requires.0 c.requires.1 c.entry_place-place.ensures c.entry_at-partition.ensures
