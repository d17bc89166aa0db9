-- `names::inner::compose` meets its contract. The invariant: what is stored so far, three bytes a unit at most, and with what is to come it is the whole text. Assumes nothing.
use Prim.Native.Nat.{◌*◌, ◌-◌, ◌≤◌}
use Rattle.names.proofs.Runs.{Told}
use Rattle.names.proofs.inner.compose.Given as goal

abbrev pub invariant-loop-i : goal.invariant-loop-i
invariant-loop-i l = (l.i ≤ 36) × (l.n ≤ 3 * l.i) × Told l.name l.words l.i l.n

abbrev pub decreases-loop-i : goal.decreases-loop-i
decreases-loop-i l = 36 - l.i
