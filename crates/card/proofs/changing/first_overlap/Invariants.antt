-- `card::changing::first_overlap` meets its contract. The invariant: none of the entries that were passed is met. Assumes nothing.
use mathlib.Core.Path.{◌≡◌}
use mathlib.Core.Bool.{true, false}
use mathlib.Core.List.{List}
use Prim.Native.Nat.{ℕ, ◌<◌}
use lib.Dec.{eqb}
use Rattle.units.specs.Answer.{pick}
use Rattle.units.specs.Bytes.{part}
use Rattle.tables.specs.Entries.{entry, used, first_of, last_of, overlaps}
use Rattle.card.proofs.changing.first_overlap.Given as goal

abbrev pub invariant-loop-j : goal.invariant-loop-j
invariant-loop-j l =
    (e : List ℕ) → used e ≡ true → l.first.0 ≡ first_of e → l.last.0 ≡ last_of e → (i : ℕ) → i < l.j → pick (eqb i l.k) false (overlaps e (entry (part l.copy l.at.0 16384) i)) ≡ false
