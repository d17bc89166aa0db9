-- `ground::inner::rows_check` meets its contract. Assumes nothing.
use Rattle.ground.proofs.Ways.{short-rows, long-rows}
use Rattle.ground.proofs.inner.rows_check.Goals as goal

pub returns-then-starts-count : goal.returns-then-starts-count
returns-then-starts-count c = let a = c.args in short-rows a.starts a.lengths a.n c.if-starts-count.true

pub returns : goal.returns
returns c = let a = c.args in long-rows a.starts a.lengths a.n c.if-starts-count.false
