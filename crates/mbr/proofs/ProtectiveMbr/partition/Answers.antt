-- `mbr::ProtectiveMbr::partition` meets its contract. Assumes nothing.
use borrow.Author.Tests.{le-leb, lt-leb}
use Rattle.mbr.specs.Changing.{record_taken}
use Rattle.mbr.proofs.ProtectiveMbr.partition.Goals as goal

pub returns-then-place-ge4 : goal.returns-then-place-ge4
unfolding record_taken
returns-then-place-ge4 c = rw (le-leb _ _ c.if-place-ge4.true)

pub returns : goal.returns
unfolding record_taken
returns c = rw (lt-leb _ _ c.if-place-ge4.false)
