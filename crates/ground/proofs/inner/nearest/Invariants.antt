-- `ground::inner::nearest` meets its contract. The invariant: the best so far of the entries that were passed. Assumes nothing.
use Rattle.units.specs.Bytes.{part}
use Rattle.ground.specs.Search.{Nearest}
use Rattle.ground.proofs.inner.nearest.Given as goal

abbrev pub invariant-loop-k : goal.invariant-loop-k
invariant-loop-k l = Nearest (part l.copy l.array.0 16384) l.k l.x.0 l.initial.best l.best
