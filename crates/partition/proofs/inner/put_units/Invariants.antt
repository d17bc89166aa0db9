-- `partition::inner::put_units` meets its contract. The invariant: with the units that are left stored, the slice is the one that is asked for. Assumes nothing.
use Rattle.std.proofs.Common.{◌≡◌, ◌+◌, ◌*◌, length, drop}
use Rattle.std.proofs.lemmas.List.Edits.{sets}
use Rattle.partition.specs.Format.{unit_bytes}
use Rattle.partition.proofs.inner.put_units.Given as goal

abbrev pub invariant-loop-i : goal.invariant-loop-i
invariant-loop-i l = (length l.s ≡ length l.initial.s) × (sets l.s (l.at + 2 * l.i) (unit_bytes (drop l.i l.u-items)) ≡ sets l.initial.s l.at (unit_bytes l.u-items))
