-- `partition::inner::joined` meets its contract. Assumes nothing.
use borrow.Author.Rules.{rules}
use Rattle.partition.specs.Flags.{joined}
use Rattle.partition.proofs.inner.joined.Goals as goal

pub returns : goal.returns
unfolding joined
returns c = search rules
