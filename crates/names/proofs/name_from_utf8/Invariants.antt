-- `names::name_from_utf8` meets its contract. The invariant: what is stored so far, and from here the run is the whole text's. Assumes nothing.
use Prim.Native.Nat.{◌-◌, ◌≤◌}
use lib.ListN.{length}
use Rattle.names.proofs.Runs.{Gone}
use Rattle.names.proofs.name_from_utf8.Given as goal

abbrev pub invariant-loop-at : goal.invariant-loop-at
invariant-loop-at l = (l.at ≤ length l.text) × (l.k ≤ 36) × Gone l.text l.name l.at l.k

abbrev pub decreases-loop-at : goal.decreases-loop-at
decreases-loop-at l = length l.text - l.at
