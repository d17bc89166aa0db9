-- `checking::inner::greatest_last` meets its contract: one law for each way out. Assumes nothing.
use Rattle.checking.proofs.OrderLaws.{greatest-unused, greatest-last, greatest-top}
use Rattle.checking.proofs.inner.greatest_last.Goals as goal

pub returns-then-nil_type_at : goal.returns-then-nil_type_at
returns-then-nil_type_at c = let a = c.args in greatest-unused a.img.now a.own.0 c.nil_type_at.ensures a.top.0 c.if-nil_type_at.true

pub returns-then-top-last : goal.returns-then-top-last
returns-then-top-last c =
    let i = c in
    let a = i.args in
    greatest-last a.img.now a.own.0 i.nil_type_at.ensures a.top.0 i.if-nil_type_at.false c.last_at-last.ensures c.if-top-last.true

pub returns : goal.returns
returns c =
    let i = c in
    let a = i.args in
    greatest-top a.img.now a.own.0 i.nil_type_at.ensures a.top.0 i.if-nil_type_at.false c.last_at-last.ensures c.if-top-last.false
