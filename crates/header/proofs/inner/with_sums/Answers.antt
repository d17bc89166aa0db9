-- `header::inner::with_sums` meets its contract: the sum is the same whatever stood in its own field. Assumes nothing.
use Rattle.header.specs.Writing.{stored, with_sums}
use Rattle.header.proofs.Laws.{sum-blind}
use Rattle.header.proofs.inner.with_sums.Goals as goal

pub returns : goal.returns
unfolding with_sums
returns c =
    let a = c.args in
    rw (c.own_sum.ensures, sum-blind (stored a.h) a.h.crc32 0 a.parts)
