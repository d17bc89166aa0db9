-- `units::is_inside` meets its contract: the code subtracts where the definition adds. Assumes nothing.
use mathlib.Core.Path.{sym}
use Prim.Native.Nat.{◌+◌}
use native.Mathlib.Omega.{arith}
use borrow.Author.Tests.{lt-leb}
use Rattle.units.specs.Places.{inside}
use Rattle.units.proofs.Laws.{inside-start}
use Rattle.units.proofs.is_inside.Goals as goal

pub returns-then-len-n : goal.returns-then-len-n
unfolding inside
returns-then-len-n c = let a = c.args in sym (lt-leb (a.at.0 + a.n) a.len (omega arith))

pub returns : goal.returns
unfolding inside
returns c = let a = c.args in inside-start a.at.0 a.n a.len (omega arith)
