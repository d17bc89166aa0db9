-- `listing::inner::front_array` meets its contract. Assumes nothing.
use mathlib.Core.Path.{ap}
use native.Mathlib.Omega.{arith}
use Rattle.units.specs.declared.BytePlace.{BytePlace}
use Rattle.listing.proofs.inner.front_array.Goals as goal

pub place-requires : goal.place-requires
place-requires c = omega (arith, c.requires)

pub returns : goal.returns
returns c = omega (arith, ap (λ (p : BytePlace). p.0) c.place.ensures)
