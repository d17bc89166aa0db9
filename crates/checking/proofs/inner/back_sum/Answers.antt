-- `checking::inner::back_sum` meets its contract. Assumes nothing.
use Rattle.checking.proofs.inner.back_sum.Goals as goal

pub returns-then-agree : goal.returns-then-agree
returns-then-agree c = c.requires.sum_value c.if-agree.true

pub returns : goal.returns
returns c = c.array_sum.ensures
