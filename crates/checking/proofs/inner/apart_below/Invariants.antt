-- `checking::inner::apart_below` meets its contract. The invariant: entry k shares no block with those that were passed. Assumes nothing.
use mathlib.Core.Path.{◌≡◌}
use mathlib.Core.Bool.{true, not}
use Prim.Native.Nat.{ℕ}
use Rattle.units.specs.Bytes.{part}
use Rattle.tables.specs.Checks.{all}
use Rattle.tables.specs.Entries.{entry, overlaps}
use Rattle.checking.proofs.inner.apart_below.Given as goal

abbrev pub invariant-loop-j : goal.invariant-loop-j
invariant-loop-j l =
    all l.j (λ (i : ℕ). not (overlaps (entry (part l.img l.at.0 16384) l.k) (entry (part l.img l.at.0 16384) i))) ≡ true
