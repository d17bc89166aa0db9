-- `partition::inner::device_sizes` meets its contract: 1, 7. Assumes nothing.
use Rattle.partition.proofs.Ways.{sizes-block, sizes-none, sizes-big, sizes-good}
use Rattle.std.proofs.Common.{ap}
use Rattle.std.specs.Prelude.{not}
use Rattle.partition.proofs.inner.device_sizes.Goals as goal
use Rattle.partition.proofs.inner.device_sizes.Goals.{then-entry_size-eq0-via-then-entry_size-eq0, then-entry_size-eq0-via-else-entry_size-eq0+then-entry_size-gt4096}

pub returns-then-not-good_block_size : goal.returns-then-not-good_block_size
returns-then-not-good_block_size c = sizes-block _ _ c.good_block_size.ensures (ap not c.if-not-good_block_size.true)

pub returns-then-entry_size-eq0 : goal.returns-then-entry_size-eq0
returns-then-entry_size-eq0 c =
    elim c.then-entry_size-eq0.branch [
      | then-entry_size-eq0-via-then-entry_size-eq0 w ↦ sizes-none _ _ c.good_block_size.ensures (ap not c.if-not-good_block_size.false) w.if-entry_size-eq0.true
      | then-entry_size-eq0-via-else-entry_size-eq0+then-entry_size-gt4096 w ↦ sizes-big _ _ c.good_block_size.ensures (ap not c.if-not-good_block_size.false) w.if-entry_size-gt4096.true
    ]

pub returns : goal.returns
returns c = sizes-good _ _ c.good_block_size.ensures (ap not c.if-not-good_block_size.false) c.if-entry_size-eq0.false c.if-entry_size-gt4096.false
