-- `ground::inner::count_runs` meets its contract. The invariant: the runs that were counted and those that are left are all. Assumes nothing.
use mathlib.Core.Path.{◌≡◌}
use Prim.Native.Nat.{◌+◌}
use lib.ListN.{length}
use Rattle.units.specs.Bytes.{part}
use Rattle.ground.specs.Search.{At, front_runs}
use Rattle.ground.proofs.FillLaws.{rest}
use Rattle.ground.proofs.inner.count_runs.Given as goal

abbrev pub invariant-loop-g : goal.invariant-loop-g
invariant-loop-g l =
    At l.b l.len (part l.copy l.array.0 16384) l.g.after.0
    × (l.n + length (rest l.b l.len (part l.copy l.array.0 16384) l.g) ≡ length (front_runs l.b l.len l.copy))

abbrev pub decreases-loop-g : goal.decreases-loop-g
decreases-loop-g l = length (rest l.b l.len (part l.copy l.array.0 16384) l.g)
