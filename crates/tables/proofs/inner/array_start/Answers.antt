-- `tables::inner::array_start` meets its contract. Assumes nothing.
use native.Mathlib.Omega.{arith}
use Rattle.tables.proofs.Good.{room-ok}
use Rattle.tables.proofs.Builder.{last_fits}
use Rattle.tables.proofs.inner.array_start.Goals as goal

pub overflow_add-result : goal.overflow_add-result
overflow_add-result c =
    let r = room-ok _ _ c.requires in
    rw c.last_usable.ensures (omega (arith, last_fits _ _ r (omega arith)))

pub returns-then-back : goal.returns-then-back
returns-then-back c = rw (c.if-back.true, c.last_usable.ensures)

pub returns : goal.returns
returns c = rw c.if-back.false
