-- `zero_run` meets its contract. The invariant: the n chunks that were passed are zero. Assumes nothing.
use mathlib.Core.Path.{◌≡◌}
use mathlib.Core.Bool.{true}
use Prim.Native.Nat.{◌+◌, ◌*◌, ◌-◌, ◌≤◌}
use lib.ListN.{length}
use Rattle.units.specs.Bytes.{part, all_zero}
use Rattle.crc32.proofs.sparse.zero_run.Given as goal

abbrev pub invariant-loop-n : goal.invariant-loop-n
invariant-loop-n l = (l.n ≤ 128) × (l.at + 128 * l.n ≤ length l.s) × (all_zero (part l.s l.at (128 * l.n)) ≡ true)

abbrev pub decreases-loop-n : goal.decreases-loop-n
decreases-loop-n l = 128 - l.n
