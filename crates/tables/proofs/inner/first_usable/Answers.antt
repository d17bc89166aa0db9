-- `tables::inner::first_usable` meets its contract. Assumes nothing.
use mathlib.Core.Path.{refl}
use native.Mathlib.Nat.{div-le_self}
use native.Mathlib.Omega.{arith}
use Rattle.tables.specs.Places.{first_usable_of}
use Rattle.tables.proofs.inner.first_usable.Goals as goal

pub overflow_add-result : goal.overflow_add-result
overflow_add-result c = omega (arith, div-le_self 16384 c.args.b)

pub returns : goal.returns
unfolding first_usable_of
returns c = refl
