-- `ground::inner::next_run` meets its contract. The invariant: the runs from the block where the search stands are those that are asked for. Assumes nothing.
use mathlib.Core.Path.{◌≡◌}
use Prim.Native.Nat.{◌+◌, ◌-◌, ◌≤◌}
use Rattle.units.specs.Bytes.{part}
use Rattle.tables.specs.Places.{last_usable_of}
use Rattle.ground.specs.Search.{At, left}
use Rattle.ground.proofs.inner.next_run.Given as goal

abbrev pub invariant-loop-from : goal.invariant-loop-from
invariant-loop-from l =
    At l.b l.len (part l.copy l.array.0 16384) l.from.0
    × (left l.b l.len (part l.copy l.array.0 16384) l.initial.from.0 ≡ left l.b l.len (part l.copy l.array.0 16384) l.from.0)
    × (l.initial.from.0 ≤ l.from.0)

abbrev pub decreases-loop-from : goal.decreases-loop-from
decreases-loop-from l = last_usable_of l.b l.len + 1 - l.from.0
