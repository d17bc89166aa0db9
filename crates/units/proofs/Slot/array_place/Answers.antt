-- `units::Slot::array_place` meets its contract. Assumes nothing.
use Rattle.std.proofs.Common.{arith}
use Rattle.std.proofs.lemmas.Bool.Decides.{nat_tests}
use Rattle.units.specs.Places.{array_place_of}
use Rattle.units.proofs.Slot.array_place.Goals as goal

pub returns-then-slot-lt1 : goal.returns-then-slot-lt1
unfolding array_place_of
returns-then-slot-lt1 c = grind (arith, nat_tests)

pub returns : goal.returns
unfolding array_place_of
returns c = grind (arith, nat_tests)
