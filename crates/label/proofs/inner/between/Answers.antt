-- `label::inner::between` meets its contract. Assumes nothing.
use Rattle.units.proofs.Laws.{tests}
use Rattle.label.specs.Labels.{between}
use Rattle.label.proofs.inner.between.Goals as goal

pub returns-then-x-low : goal.returns-then-x-low
unfolding between
returns-then-x-low c = search tests

pub returns : goal.returns
unfolding between
returns c = search tests
