-- `units::inner::put_bytes` meets its contract. The invariant: storing what is left of src gives what storing all of it gives. Assumes nothing.
use mathlib.Core.Path.{◌≡◌}
use Prim.Native.Nat.{◌+◌, ◌-◌, ◌≤◌}
use lib.ListN.{length, drop}
use lib.Seq.{sets}
use Rattle.units.proofs.inner.put_bytes.Given as goal

abbrev pub invariant-loop-i : goal.invariant-loop-i
invariant-loop-i l = (l.i ≤ length l.src) × (length l.s ≡ length l.initial.s) × (sets l.s (l.at + l.i) (drop l.i l.src) ≡ sets l.initial.s l.at l.src)

abbrev pub decreases-loop-i : goal.decreases-loop-i
decreases-loop-i l = length l.src - l.i
