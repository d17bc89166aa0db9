-- `ground::inner::answer` meets its contract. Assumes nothing.
use Rattle.ground.proofs.Ways.{count-fine, count-refused}
use Rattle.ground.proofs.inner.answer.Goals as goal

pub returns-then-n-eq0 : goal.returns-then-n-eq0
returns-then-n-eq0 c = let a = c.args in count-fine a.found a.count c.if-n-eq0.true

pub returns : goal.returns
returns c = let a = c.args in count-refused a.found a.count c.if-n-eq0.false c.reason.ensures
