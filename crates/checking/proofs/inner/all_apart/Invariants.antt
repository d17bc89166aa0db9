-- `checking::inner::all_apart` meets its contract. The invariant: no two of the entries that were passed share a block, and none of them ends after block top. Assumes nothing.
use mathlib.Core.Path.{◌≡◌}
use mathlib.Core.Bool.{true, not}
use Prim.Native.Nat.{ℕ}
use Rattle.units.specs.Bytes.{part}
use Rattle.tables.specs.Checks.{all}
use Rattle.tables.specs.Entries.{entry, overlaps}
use Rattle.checking.specs.Order.{Below}
use Rattle.checking.proofs.inner.all_apart.Given as goal

abbrev pub invariant-loop-k : goal.invariant-loop-k
invariant-loop-k l =
    (all l.k (λ (i : ℕ). all i (λ (j : ℕ). not (overlaps (entry (part l.img l.at.0 16384) i) (entry (part l.img l.at.0 16384) j)))) ≡ true) × Below (part l.img l.at.0 16384) l.k l.top.0
