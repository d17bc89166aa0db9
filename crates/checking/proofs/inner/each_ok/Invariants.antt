-- `checking::inner::each_ok` meets its contract. The invariant: every entry that was passed is good. Assumes nothing.
use mathlib.Core.Path.{◌≡◌}
use mathlib.Core.Bool.{true}
use Prim.Native.Nat.{ℕ}
use Rattle.units.specs.Bytes.{part}
use Rattle.tables.specs.Checks.{all}
use Rattle.tables.specs.Places.{first_usable_of, last_usable_of}
use Rattle.tables.specs.Entries.{entry, ok_entry}
use Rattle.checking.proofs.inner.each_ok.Given as goal

abbrev pub invariant-loop-k : goal.invariant-loop-k
invariant-loop-k l =
    (B n : ℕ) → l.first.0 ≡ first_usable_of B → l.last.0 ≡ last_usable_of B n → all l.k (λ (i : ℕ). ok_entry B n (entry (part l.img l.at.0 16384) i)) ≡ true
