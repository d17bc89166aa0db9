-- `listing::inner::nth_in` meets its contract. The invariant: i present slots are passed, and those after the last of them are left. Assumes nothing.
use mathlib.Core.Path.{◌≡◌}
use Prim.Native.Nat.{◌-◌}
use lib.ListN.{drop}
use Rattle.partition.specs.Array.{present_from}
use Rattle.listing.proofs.inner.nth_in.Given as goal

abbrev pub invariant-loop-i : goal.invariant-loop-i
invariant-loop-i l = drop l._i (present_from l.array 0 0 128) ≡ present_from l.array 0 l.after.0 (128 - l.after.0)
