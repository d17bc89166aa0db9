-- `partition::next_partition` meets its contract. Assumes nothing.
use Rattle.std.proofs.Common.{sym, ap, ◌∙◌}
use Rattle.units.proofs.Results.{err-is}
use Rattle.partition.specs.Meanings.{next_means}
use Rattle.partition.proofs.Ways.{array_tells, after-refused, after_given}
use Rattle.partition.proofs.next_partition.Goals as goal

pub next_present-requires : goal.next_present-requires
next_present-requires c = (array_tells _ _ _ _ (sym c.in_ok-at.ensures)).within

pub returns-in_err-at : goal.returns-in_err-at
returns-in_err-at c = ap next_means (err-is _ _ c.from_residual.ensures.1) ∙ after-refused _ _ _ _ (sym c.in_err-at.ensures)

pub returns : goal.returns
returns c = after_given _ _ _ _ (sym c.in_ok-at.ensures) c.next_present.ensures
