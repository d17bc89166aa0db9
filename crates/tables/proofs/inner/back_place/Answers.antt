-- `tables::inner::back_place` meets its contract. Assumes nothing.
use mathlib.Core.Path.{refl}
use native.Mathlib.Omega.{arith}
use Rattle.tables.proofs.Good.{room-ok}
use Rattle.tables.proofs.inner.back_place.Goals as goal

pub place-requires : goal.place-requires
place-requires c =
    let r = room-ok _ _ c.requires in
    rw c.array_start.ensures (omega (arith, r.last, r.seam, r.top))

pub returns : goal.returns
returns c =
    let r = room-ok _ _ c.requires in
    rw (c.place.ensures, c.array_start.ensures, r.last) (refl, omega (arith, r.seam, r.top))
