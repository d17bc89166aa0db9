-- `windows_label::inner::first_place` meets its contract. The loop's invariant: the first place in what is left of the list, and the places before it, come to the first place in the whole list.
-- Assumes nothing.
use mathlib.Core.Path.{◌≡◌}
use Prim.Native.Nat.{◌+◌, ◌-◌, ◌≤◌}
use lib.ListN.{length, drop}
use Rattle.windows_label.specs.Handed.{first_place}
use Rattle.windows_label.proofs.inner.first_place.Given as goal

abbrev pub invariant-loop-i : goal.invariant-loop-i
invariant-loop-i l = (l.i ≤ length l.slots) × (l.i + first_place (drop l.i l.slots) l.slot ≡ first_place l.slots l.slot)

abbrev pub decreases-loop-i : goal.decreases-loop-i
decreases-loop-i l = length l.slots - l.i
