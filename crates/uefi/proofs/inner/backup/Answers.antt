-- `uefi::inner::backup` meets its contract: the last whole block of three or more always fits. Assumes nothing.
use native.Mathlib.Omega.{arith}
use lib.ListN.{length}
use borrow.Author.Tests.{lt-ltb, le-ltb}
use Rattle.units.proofs.Laws.{size-past}
use Rattle.header.proofs.Ways.{last_block}
use Rattle.uefi.specs.Reading.{backup_by_uefi}
use Rattle.std.proofs.Common.{ap}
use Rattle.std.specs.Prelude.{not}
use Rattle.uefi.proofs.inner.backup.Goals as goal

pub returns-then-not-good_block_size : goal.returns-then-not-good_block_size
unfolding backup_by_uefi
returns-then-not-good_block_size c = rw (← c.good_block_size.ensures, (ap not c.if-not-good_block_size.true))

pub overflow_mul-size : goal.overflow_mul-size
overflow_mul-size c = let p = size-past _ c.good_block_size.ensures (ap not c.if-not-good_block_size.false) in omega (arith, p.1)

pub returns-then-img-size : goal.returns-then-img-size
unfolding backup_by_uefi
returns-then-img-size c =
    let sized = c in
    rw (← sized.good_block_size.ensures, (ap not sized.if-not-good_block_size.false), lt-ltb _ _ c.if-img-size.true)

pub nonzero_div-last : goal.nonzero_div-last
nonzero_div-last c =
    let sized = c in
    let p = size-past _ sized.good_block_size.ensures (ap not sized.if-not-good_block_size.false) in
    omega (arith, p.0)

pub read_block-requires : goal.read_block-requires
read_block-requires c =
    let long = c in
    let sized = long in
    let p = size-past _ sized.good_block_size.ensures (ap not sized.if-not-good_block_size.false) in
    let start = sized in
    (omega (arith, p.0), omega (arith, last_block (length start.args.img.now) start.args.b (omega (arith, long.if-img-size.false))))

pub returns : goal.returns
unfolding backup_by_uefi
returns c =
    let long = c in
    let sized = long in
    rw (← sized.good_block_size.ensures, (ap not sized.if-not-good_block_size.false), le-ltb _ _ long.if-img-size.false) c.read_block.ensures
