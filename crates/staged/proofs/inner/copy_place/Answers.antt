-- `staged::inner::copy_place` meets its contract. Assumes nothing.
use mathlib.Core.Path.{refl}
use native.Mathlib.Omega.{arith}
use Rattle.tables.proofs.Good.{room-ok}
use Rattle.staged.proofs.inner.copy_place.Goals as goal

pub returns-then-back : goal.returns-then-back
returns-then-back c = rw c.if-back.true c.back_place.ensures

pub returns : goal.returns
returns c = let r = room-ok _ _ c.requires in rw c.if-back.false (refl, omega (arith, r.low, r.seam, r.top))
