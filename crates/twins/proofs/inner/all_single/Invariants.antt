-- `twins::inner::all_single` meets its contract. The invariant: no two of the entries that were passed are twins, and the set has the numbers of the used ones. Assumes nothing.
use mathlib.Core.Path.{◌≡◌}
use mathlib.Core.Bool.{true, not}
use Prim.Native.Nat.{ℕ}
use lib.ListN.{length}
use Rattle.units.specs.Bytes.{part}
use Rattle.tables.specs.Checks.{all}
use Rattle.tables.specs.Entries.{entry, twins}
use Rattle.twins.specs.Marks.{Marked}
use Rattle.twins.proofs.inner.all_single.Given as goal

abbrev pub invariant-loop-k : goal.invariant-loop-k
invariant-loop-k l =
    (all l.k (λ (i : ℕ). all i (λ (j : ℕ). not (twins (entry (part l.copy l.at.0 16384) i) (entry (part l.copy l.at.0 16384) j)))) ≡ true)
    × Marked (part l.copy l.at.0 16384) l.k l.m × (length l.m ≡ 64)
