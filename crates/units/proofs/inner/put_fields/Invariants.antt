-- `units::inner::put_fields` meets its contract. The invariant: the fields that are left, laid from place p on, give what all of them laid from at on give,
-- and they end where all end. Assumes nothing.
use mathlib.Core.Path.{◌≡◌}
use Prim.Native.Nat.{◌+◌}
use lib.ListN.{length, drop}
use lib.Seq.{sets}
use Rattle.units.specs.Bytes.{total, laid}
use Rattle.units.proofs.inner.put_fields.Given as goal

abbrev pub invariant-loop-i : goal.invariant-loop-i
invariant-loop-i l =
    (length l.s ≡ length l.initial.s)
    × (l.p + total (drop l.i l.widths) ≡ l.at + total l.widths)
    × (sets l.s l.p (laid (drop l.i l.widths) (drop l.i l.vals)) ≡ sets l.initial.s l.at (laid l.widths l.vals))
