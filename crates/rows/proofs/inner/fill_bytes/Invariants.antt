-- `rows::inner::fill_bytes` meets its contract. The invariant: with the rows that are left stored, the lent bytes are those that are asked for. Assumes nothing.
use mathlib.Core.Path.{◌≡◌}
use Prim.Native.Nat.{◌+◌, ◌*◌}
use lib.ListN.{length}
use lib.Seq.{sets}
use Rattle.rows.specs.Plans.{entries_by}
use Rattle.rows.proofs.Laws.{left}
use Rattle.rows.specs.RowBytes.{rows_bytes}
use Rattle.rows.proofs.inner.fill_bytes.Given as goal

abbrev pub invariant-loop-i : goal.invariant-loop-i
invariant-loop-i l =
    (l.i + length (left l.img l.q l.at) ≡ l.count)
    × (length l.out ≡ length l.initial.out)
    × (sets l.out (136 * l.i) (rows_bytes (left l.img l.q l.at)) ≡ sets l.initial.out 0 (rows_bytes (entries_by l.img l.q)))
