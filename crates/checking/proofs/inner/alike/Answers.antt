-- `checking::inner::alike` meets its contract: the tests are those of the definition, in its order. Assumes nothing.
use Rattle.units.proofs.Laws.{and_assoc}
use Rattle.tables.specs.Headers.{alike}
use Rattle.checking.proofs.inner.alike.Goals as goal

pub returns : goal.returns
unfolding alike
returns c = simp and_assoc
