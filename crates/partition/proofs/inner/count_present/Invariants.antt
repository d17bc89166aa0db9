-- `partition::inner::count_present` meets its contract. The invariant: the present entries that were passed, and those that are left, are all. Assumes nothing.
use Rattle.std.proofs.Common.{◌≡◌, ◌+◌, ◌-◌, ◌≤◌, length}
use Rattle.partition.specs.Array.{present_from}
use Rattle.partition.proofs.inner.count_present.Given as goal

abbrev pub invariant-loop-k : goal.invariant-loop-k
invariant-loop-k l = (l.n ≤ l.k) × (l.n + length (present_from l.s l.at l.k (l.count - l.k)) ≡ length (present_from l.s l.at 0 l.count))
