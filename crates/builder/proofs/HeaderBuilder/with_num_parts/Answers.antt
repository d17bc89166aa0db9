-- `builder::HeaderBuilder::with_num_parts` meets its contract. Assumes nothing.
use Rattle.units.proofs.Laws.{tests}
use Rattle.builder.proofs.HeaderBuilder.with_num_parts.Goals as goal

pub returns-then-num_parts-lt128 : goal.returns-then-num_parts-lt128
returns-then-num_parts-lt128 c = search tests

pub returns-else-num_parts-lt128 : goal.returns-else-num_parts-lt128
returns-else-num_parts-lt128 c = search tests
