-- `builder::HeaderBuilder::from_header` meets its contract. Assumes nothing.
use Rattle.units.proofs.Laws.{tests}
use Rattle.builder.specs.Building.{of_header}
use Rattle.builder.proofs.HeaderBuilder.from_header.Goals as goal

pub returns-then-current-backup : goal.returns-then-current-backup
unfolding of_header
returns-then-current-backup c = search tests

pub returns-else-current-backup : goal.returns-else-current-backup
unfolding of_header
returns-else-current-backup c = search tests
