-- `twins::inner::with_bit` meets its contract. Assumes nothing.
use Rattle.twins.proofs.Laws.{one_shl}
use Rattle.twins.proofs.inner.with_bit.Goals as goal

pub returns : goal.returns
returns c = rw (one_shl c.args.k c.requires)
