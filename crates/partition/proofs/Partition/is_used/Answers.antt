-- `partition::Partition::is_used` meets its contract. Assumes nothing.
use mathlib.Core.Path.{ap}
use mathlib.Core.Bool.{not}
use Rattle.partition.proofs.Partition.is_used.Goals as goal

pub returns : goal.returns
returns c = ap not c.is_nil.ensures
