-- `header::inner::put_block` meets its contract: the zeros begin where the 92 bytes end. Assumes nothing.
use Prim.Native.Nat.{◌+◌, ◌-◌}
use native.Mathlib.Omega.{arith}
use lib.ListN.{replicate}
use Rattle.units.proofs.Lists.{and_then}
use Rattle.header.specs.Format.{header_bytes}
use Rattle.header.specs.Writing.{stored}
use Rattle.header.proofs.Laws.{length-header}
use Rattle.header.proofs.inner.put_block.Goals as goal

pub returns : goal.returns
returns c =
    let put = c in
    let a = put.args in
    let h = stored a.h in
    and_then a.img.now a.at (header_bytes h) (a.at + 92) (replicate (a.size - 92) 0) (omega (arith, length-header h))
    put.put_header.ensures c.put_zeros.ensures
