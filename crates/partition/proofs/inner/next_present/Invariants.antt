-- `partition::inner::next_present` meets its contract. The invariant: no entry that was passed is present. Assumes nothing.
use mathlib.Core.Path.{◌≡◌}
use Prim.Native.Nat.{◌-◌}
use Rattle.std.specs.Prelude.{take}
use Rattle.partition.specs.Array.{present_from}
use Rattle.partition.proofs.inner.next_present.Given as goal

abbrev pub invariant-loop-k : goal.invariant-loop-k
invariant-loop-k l = take 1 (present_from l.s l.at l.fn.after.0 (l.count - l.fn.after.0)) ≡ take 1 (present_from l.s l.at l.k (l.count - l.k))
