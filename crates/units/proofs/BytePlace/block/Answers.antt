-- `units::BytePlace::block` meets its contract. Assumes nothing.
use native.Mathlib.Omega.{arith}
use Rattle.units.specs.Places.{block_of}
use Rattle.units.proofs.Laws.{size-yes}
use Rattle.std.proofs.Common.{ap}
use Rattle.std.specs.Prelude.{not}
use Rattle.units.proofs.BytePlace.block.Goals as goal

pub returns-then-not-good_block_size : goal.returns-then-not-good_block_size
unfolding block_of
returns-then-not-good_block_size c = rw (← c.good_block_size.ensures, (ap not c.if-not-good_block_size.true))

pub nonzero_div-result : goal.nonzero_div-result
nonzero_div-result c = let p = size-yes _ c.good_block_size.ensures (ap not c.if-not-good_block_size.false) in omega arith

pub returns : goal.returns
unfolding block_of
returns c = rw (← c.good_block_size.ensures, (ap not c.if-not-good_block_size.false))
