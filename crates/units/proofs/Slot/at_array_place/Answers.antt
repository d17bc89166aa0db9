-- `units::Slot::at_array_place` meets its contract. Assumes nothing.
use borrow.Author.Tests.{le-leb, lt-leb}
use Rattle.units.specs.Places.{slot_of}
use Rattle.units.proofs.Slot.at_array_place.Goals as goal

pub returns-then-count-place : goal.returns-then-count-place
unfolding slot_of
returns-then-count-place c = rw (le-leb _ _ c.if-count-place.true)

pub returns : goal.returns
unfolding slot_of
returns c = rw (c.slot_at.ensures, lt-leb _ _ c.if-count-place.false)
