-- `reader::inner::array_byte_place` meets its contract. Assumes nothing.
use mathlib.Core.Path.{◌≡◌}
use mathlib.Core.Bool.{Bool, true, false}
use Prim.Native.Nat.{ℕ, ◌+◌, ◌*◌, ◌≤◌}
use native.Mathlib.Omega.{arith}
use Rattle.tables.specs.Lens.{side_of}
use Rattle.tables.specs.Headers.{array_start}
use Rattle.tables.proofs.Room.{Room}
use Rattle.tables.proofs.Good.{room-ok}
use Rattle.reader.specs.Reader.{array_byte_place}
use Rattle.reader.proofs.inner.array_byte_place.Goals as goal

starts : (B n : ℕ) (back : Bool) → Room B n → (array_start B n (side_of back) * B ≡ array_byte_place B n (side_of back)) × (array_start B n (side_of back) * B + 16384 ≤ n)
starts B n false r = (omega arith, omega (arith, r.low, r.seam, r.top))
starts B n true r = (r.last, omega (arith, r.last, r.seam, r.top))

pub place-requires : goal.place-requires
place-requires c =
    let q = starts c.args.b c.args.len c.args.back (room-ok _ _ c.requires) in
    rw c.array_start.ensures (omega (arith, q.1))

pub returns : goal.returns
returns c =
    let q = starts c.args.b c.args.len c.args.back (room-ok _ _ c.requires) in
    rw (c.place.ensures, c.array_start.ensures) q
