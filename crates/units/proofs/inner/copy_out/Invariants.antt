-- `units::inner::copy_out` meets its contract. The loop's invariant: storing the bytes that are left makes what the function promises. Assumes nothing.
use mathlib.Core.Path.{◌≡◌}
use Prim.Native.Nat.{◌+◌, ◌-◌, ◌≤◌}
use lib.ListN.{length}
use lib.Seq.{sets}
use Rattle.units.specs.Bytes.{part}
use Rattle.units.proofs.inner.copy_out.Given as goal

abbrev pub invariant-loop-i : goal.invariant-loop-i
invariant-loop-i l =
    (l.i ≤ length l.initial.out) × (length l.out ≡ length l.initial.out) × (sets l.out l.i (part l.s (l.at + l.i) (length l.initial.out - l.i)) ≡ part l.s l.at (length l.initial.out))

abbrev pub decreases-loop-i : goal.decreases-loop-i
decreases-loop-i l = length l.initial.out - l.i
