-- `partition::Partition::zero` meets its contract. Assumes nothing.
use Rattle.partition.proofs.Partition.zero.Goals as goal

pub returns : goal.returns
returns c = rw (c.nil.ensures, c.nil-2.ensures, c.of_bits.ensures)
