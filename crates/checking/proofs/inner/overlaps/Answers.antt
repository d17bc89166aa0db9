-- `checking::inner::overlaps` meets its contract: an unused entry shares no block. Assumes nothing.
use Rattle.checking.proofs.CheckWays.{overlaps-nil, overlaps-used}
use Rattle.checking.proofs.inner.overlaps.Goals as goal

pub returns-then-nil_type_at : goal.returns-then-nil_type_at
returns-then-nil_type_at c e u f l = let a = c.args in overlaps-nil a.img.now a.at.0 c.nil_type_at.ensures e c.if-nil_type_at.true

pub returns : goal.returns
returns c e u f l =
    let i = c in
    let a = i.args in
    overlaps-used a.img.now a.at.0 i.nil_type_at.ensures e i.if-nil_type_at.false c.first_at-from.ensures c.last_at-to.ensures u f l
