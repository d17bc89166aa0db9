-- `partition::inner::units_at` meets its contract. The invariant: with the units that are left stored behind those read, the array is the name. Assumes nothing.
use Rattle.std.proofs.Common.{◌≡◌, ◌+◌, ◌*◌, ◌-◌, length}
use Rattle.std.proofs.lemmas.List.Edits.{sets}
use Rattle.partition.specs.Format.{units_at}
use Rattle.partition.proofs.inner.units_at.Given as goal

abbrev pub invariant-loop-i : goal.invariant-loop-i
invariant-loop-i l = (length l.u-items ≡ 36) × (sets l.u-items l.i (units_at (36 - l.i) l.s (l.at + 2 * l.i)) ≡ units_at 36 l.s l.at)
