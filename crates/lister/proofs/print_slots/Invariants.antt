-- The lines that were printed, and the used slots that are left, are all used slots.
use Rattle.std.proofs.Common.{◌≡◌, ◌≤◌, ◌+◌, ◌-◌, length}
use Rattle.tables.specs.Lens.{tables}
use Rattle.partition.specs.Array.{present_from}
use Rattle.listing.specs.Listing.{present_slots}
use Rattle.lister.proofs.print_slots.Given as goal

abbrev pub invariant-loop-place : goal.invariant-loop-place
invariant-loop-place g l = (l.lines ≤ l.place)
    × (l.lines + length (present_from (tables 512 l.img).front.array 0 l.place (128 - l.place)) ≡ length (present_slots (tables 512 l.img)))
