-- `rows::by_type::is_used` meets its contract. Assumes nothing.
use mathlib.Core.Path.{ap}
use mathlib.Core.Bool.{not}
use Rattle.rows.proofs.by_type.is_used.Goals as goal

pub returns : goal.returns
returns c = ap not c.all_zero.ensures
