-- `uefi::inner::primary` meets its contract. Assumes nothing.
use native.Mathlib.Omega.{arith}
use Rattle.units.proofs.Laws.{size-past}
use Rattle.uefi.specs.Reading.{primary_by_uefi}
use Rattle.std.proofs.Common.{ap}
use Rattle.std.specs.Prelude.{not}
use Rattle.uefi.proofs.inner.primary.Goals as goal

pub returns-then-not-good_block_size : goal.returns-then-not-good_block_size
unfolding primary_by_uefi
returns-then-not-good_block_size c = rw (← c.good_block_size.ensures, (ap not c.if-not-good_block_size.true))

pub read_block-requires : goal.read_block-requires
read_block-requires c =
    let p = size-past _ c.good_block_size.ensures (ap not c.if-not-good_block_size.false) in
    (omega (arith, p.0), omega (arith, p.1))

pub returns : goal.returns
unfolding primary_by_uefi
returns c = let sized = c in rw (← sized.good_block_size.ensures, (ap not sized.if-not-good_block_size.false)) c.read_block.ensures
