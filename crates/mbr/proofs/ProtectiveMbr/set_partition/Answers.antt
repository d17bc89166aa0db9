-- `mbr::ProtectiveMbr::set_partition` meets its contract. Assumes nothing.
use borrow.Author.Tests.{le-leb, lt-leb}
use Rattle.mbr.specs.Changing.{record_set}
use Rattle.mbr.proofs.ProtectiveMbr.set_partition.Goals as goal

pub returns-then-place-ge4 : goal.returns-then-place-ge4
unfolding record_set
returns-then-place-ge4 c = rw (le-leb _ _ c.if-place-ge4.true)

pub returns : goal.returns
unfolding record_set
returns c = rw (lt-leb _ _ c.if-place-ge4.false)
