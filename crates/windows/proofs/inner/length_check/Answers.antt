-- `windows::inner::length_check` meets its contract. Assumes nothing.
use Rattle.windows.proofs.Ways.{length-fine, length-wrong}
use Rattle.windows.proofs.inner.length_check.Goals as goal

pub returns-then-head-size : goal.returns-then-head-size
returns-then-head-size c = length-fine _ _ _ c.if-head-size.true

pub returns : goal.returns
returns c = length-wrong _ _ _ c.if-head-size.false
