-- `checking::inner::first_differing` meets its contract. The invariant: the slots that were passed do not differ. Assumes nothing.
use mathlib.Core.Path.{◌≡◌}
use mathlib.Core.Bool.{true}
use Prim.Native.Nat.{ℕ, ◌<◌}
use Rattle.units.specs.Bytes.{same}
use Rattle.tables.specs.Lens.{Front, Back, copy_in}
use Rattle.tables.specs.Entries.{entry}
use Rattle.checking.proofs.inner.first_differing.Given as goal

abbrev pub invariant-loop-k : goal.invariant-loop-k
invariant-loop-k l = (i : ℕ) → i < l.k → same (entry (copy_in l.b Front l.front).array i) (entry (copy_in l.b Back l.back).array i) ≡ true
