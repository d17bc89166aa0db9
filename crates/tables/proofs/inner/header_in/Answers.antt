-- `tables::inner::header_in` meets its contract. Assumes nothing.
use mathlib.Core.Path.{refl}
use native.Mathlib.Omega.{arith}
use Rattle.tables.proofs.inner.header_in.Goals as goal

pub returns-then-back : goal.returns-then-back
returns-then-back c = rw c.if-back.true (refl, omega arith)

pub returns : goal.returns
returns c = rw c.if-back.false (refl, omega arith)
