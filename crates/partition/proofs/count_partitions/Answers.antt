-- `partition::count_partitions` meets its contract. Assumes nothing.
use mathlib.Core.Path.{sym, ap, ◌∙◌}
use Rattle.units.proofs.Results.{handed}
use Rattle.units.specs.Meanings.{means}
use Rattle.partition.proofs.Ways.{array_tells, count-refused, counted}
use Rattle.partition.proofs.count_partitions.Goals as goal

pub count_present-requires : goal.count_present-requires
count_present-requires c = (array_tells _ _ _ _ (sym c.in_ok-at.ensures)).within

pub returns-in_err-at : goal.returns-in_err-at
returns-in_err-at c = handed _ _ c.from_residual.ensures.1 ∙ count-refused _ _ _ (sym c.in_err-at.ensures)

pub returns : goal.returns
returns c = counted _ _ _ (sym c.in_ok-at.ensures) c.count_present.ensures
