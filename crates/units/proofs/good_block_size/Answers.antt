-- `units::good_block_size` meets its contract: the definition's two tests, in the code's order. Assumes nothing.
use Rattle.units.specs.Places.{good_size}
use Rattle.units.proofs.Laws.{tests}
use Rattle.units.proofs.good_block_size.Goals as goal

pub returns-then-b-eq512 : goal.returns-then-b-eq512
unfolding good_size
returns-then-b-eq512 c = search tests

pub returns-else-b-eq512 : goal.returns-else-b-eq512
unfolding good_size
returns-else-b-eq512 c = search tests
