-- `twins::inner::none_below` meets its contract. The invariant: none of the entries that were passed has the GUID. Assumes nothing.
use mathlib.Core.Path.{◌≡◌}
use mathlib.Core.Bool.{true, not}
use Prim.Native.Nat.{ℕ}
use Rattle.units.specs.Bytes.{part}
use Rattle.tables.specs.Checks.{all}
use Rattle.tables.specs.Entries.{entry, bears}
use Rattle.twins.proofs.inner.none_below.Given as goal

abbrev pub invariant-loop-j : goal.invariant-loop-j
invariant-loop-j l = all l.j (λ (i : ℕ). not (bears l.g (entry (part l.copy l.at.0 16384) i))) ≡ true
