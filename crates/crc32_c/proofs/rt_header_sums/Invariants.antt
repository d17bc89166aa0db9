-- A header fits at the place that the loop comes to, and the sums that are left, over what was summed, give all. Assumes nothing.
use Rattle.std.proofs.Common.{◌≡◌, ◌+◌, ◌-◌, ◌≤◌, length}
use Rattle.crc32_c.specs.Exports.{sums_from}
use Rattle.crc32_c.proofs.rt_header_sums.Given as goal

abbrev pub invariant-loop-i : goal.invariant-loop-i
invariant-loop-i l = (l.at + 92 ≤ length l.s) × (l.i ≤ l.n) × (sums_from l.s l.at (l.n - l.i) l.sum ≡ sums_from l.s 0 l.n 0)

abbrev pub decreases-loop-i : goal.decreases-loop-i
decreases-loop-i l = l.n - l.i
