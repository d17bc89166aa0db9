-- `units::BytePlace::after` meets its contract: the code subtracts where the definition adds. Assumes nothing.
use Prim.Native.Nat.{◌+◌, ◌^◌}
use native.Mathlib.Omega.{arith}
use borrow.Author.Tests.{le-leb, lt-leb}
use Rattle.units.specs.Places.{place_after}
use Rattle.units.proofs.BytePlace.after.Goals as goal

pub returns-then-at-n : goal.returns-then-at-n
unfolding place_after
returns-then-at-n c = let a = c.args in rw (le-leb (2 ^ 64) (a.self.0 + a.n) (omega arith))

pub returns : goal.returns
unfolding place_after
returns c = let a = c.args in rw (lt-leb (2 ^ 64) (a.self.0 + a.n) (omega arith))
