-- `partition::read_partition` meets its contract. Assumes nothing.
use Rattle.std.proofs.Common.{sym, ap, ◌∙◌}
use Rattle.units.specs.Answer.{accepted}
use Rattle.units.proofs.Results.{err-is}
use Rattle.partition.specs.Meanings.{read_means}
use Rattle.partition.proofs.Ways.{entry-inside, read-refused, read_found}
use Rattle.partition.proofs.read_partition.Goals as goal

pub entry_if_present-requires : goal.entry_if_present-requires
entry_if_present-requires c = entry-inside _ _ _ _ (sym c.in_ok-at.ensures)

pub returns-in_err-at : goal.returns-in_err-at
returns-in_err-at c = ap read_means (err-is _ _ c.from_residual.ensures.1) ∙ read-refused _ _ _ _ (sym c.in_err-at.ensures)

pub returns : goal.returns
returns c = ap accepted c.entry_if_present.ensures ∙ read_found _ _ _ _ (sym c.in_ok-at.ensures)
