-- `uefi::next_partition` meets its contract. Assumes nothing.
use Rattle.std.proofs.Common.{sym, ap, ◌∙◌}
use Rattle.units.proofs.Results.{err-is}
use Rattle.partition.specs.Meanings.{next_means}
use Rattle.uefi.proofs.ArrayWays.{array_tells, after-refused, after_given}
use Rattle.uefi.proofs.next_partition.Goals as goal

pub next_used-requires : goal.next_used-requires
next_used-requires c =
    let a = array_tells _ _ _ _ (sym c.in_ok-at.ensures) in
    (a.least, a.within)

pub returns-in_err-at : goal.returns-in_err-at
returns-in_err-at c = ap next_means (err-is _ _ c.from_residual.ensures.1) ∙ after-refused _ _ _ _ (sym c.in_err-at.ensures)

pub returns : goal.returns
returns c = after_given _ _ _ _ (sym c.in_ok-at.ensures) c.next_used.ensures
