-- `uefi::read_partition` meets its contract. Assumes nothing.
use Rattle.std.proofs.Common.{sym, ap, ◌∙◌}
use Rattle.units.specs.Answer.{accepted}
use Rattle.units.proofs.Results.{err-is}
use Rattle.partition.specs.Meanings.{read_means}
use Rattle.uefi.proofs.ArrayWays.{entry-inside, read-refused, read_found}
use Rattle.uefi.proofs.read_partition.Goals as goal

pub held_at-requires : goal.held_at-requires
held_at-requires c = entry-inside _ _ _ _ (sym c.in_ok-at.ensures)

pub returns-in_err-at : goal.returns-in_err-at
returns-in_err-at c = ap read_means (err-is _ _ c.from_residual.ensures.1) ∙ read-refused _ _ _ _ (sym c.in_err-at.ensures)

pub returns : goal.returns
returns c = ap accepted c.held_at.ensures ∙ read_found _ _ _ _ (sym c.in_ok-at.ensures)
