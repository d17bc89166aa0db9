-- `mbr::inner::put_records` meets its contract. The loop's invariant: storing the records that are left makes what the function promises. Assumes nothing.
use mathlib.Core.Path.{◌≡◌}
use Prim.Native.Nat.{◌+◌, ◌*◌}
use lib.ListN.{length, drop}
use lib.Seq.{sets}
use Rattle.mbr.specs.Format.{records_bytes}
use Rattle.mbr.proofs.inner.put_records.Given as goal

abbrev pub invariant-loop-i : goal.invariant-loop-i
invariant-loop-i l = (length l.s ≡ length l.initial.s) × (sets l.s (l.at + 16 * l.i) (records_bytes (drop l.i l.p-items)) ≡ sets l.initial.s l.at (records_bytes l.p-items))
