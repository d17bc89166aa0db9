-- `builder::greater_of` meets its contract. Assumes nothing.
use Rattle.units.proofs.Laws.{tests}
use Rattle.builder.proofs.greater_of.Goals as goal

pub returns-then-x-y : goal.returns-then-x-y
returns-then-x-y c = search tests

pub returns-else-x-y : goal.returns-else-x-y
returns-else-x-y c = search tests
