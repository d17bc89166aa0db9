-- `names::inner::in_range` meets its contract. Assumes nothing.
use Rattle.names.proofs.Ways.{range-low, range-surrogate, range-past, range-in}
use Rattle.names.proofs.inner.in_range.Goals as goal

pub returns-then-code-least : goal.returns-then-code-least
returns-then-code-least c = range-low _ _ _ c.none.ensures c.if-code-least.true

pub returns-then-is_between : goal.returns-then-is_between
returns-then-is_between c =
    let b = c in
    range-surrogate _ _ _ c.none-then-is_between.ensures b.if-code-least.false b.is_between.ensures c.if-is_between.true

pub returns-then-code-gt1114111 : goal.returns-then-code-gt1114111
returns-then-code-gt1114111 c =
    let b = c in
    range-past _ _ _ c.none-then-code-gt1114111.ensures b.if-code-least.false b.is_between.ensures c.if-is_between.false c.if-code-gt1114111.true

pub returns : goal.returns
returns c =
    let b = c in
    range-in _ _ _ b.if-code-least.false b.is_between.ensures c.if-is_between.false c.if-code-gt1114111.false
