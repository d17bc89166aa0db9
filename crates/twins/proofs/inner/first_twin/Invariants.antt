-- `twins::inner::first_twin` meets its contract. The invariant: none of the entries that were passed is one that is looked for. Assumes nothing.
use Rattle.std.proofs.Common.{◌≡◌, ℕ, ◌<◌, false}
use Rattle.std.specs.Prelude.{eqb}
use Rattle.units.specs.Answer.{pick}
use Rattle.units.specs.Bytes.{part}
use Rattle.tables.specs.Entries.{entry, bears}
use Rattle.twins.proofs.inner.first_twin.Given as goal

abbrev pub invariant-loop-j : goal.invariant-loop-j
invariant-loop-j l = (i : ℕ) → i < l.j → pick (eqb i l.k) false (bears l.g (entry (part l.copy l.at.0 16384) i)) ≡ false
