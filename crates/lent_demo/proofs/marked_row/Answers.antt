use Rattle.std.proofs.Common.{refl}
use Rattle.lent_demo.specs.Marked.{marked_row}
use Rattle.lent_demo.proofs.marked_row.Goals as goal

pub returns : goal.returns
unfolding marked_row
returns c = rw c.zero.ensures refl
