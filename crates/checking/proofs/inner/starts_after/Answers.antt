-- `checking::inner::starts_after` meets its contract: one law for each way out. Assumes nothing.
use Rattle.checking.proofs.OrderLaws.{after-unused, after-used}
use Rattle.checking.proofs.inner.starts_after.Goals as goal

pub returns-then-nil_type_at : goal.returns-then-nil_type_at
returns-then-nil_type_at c = let a = c.args in after-unused a.img.now a.own.0 c.nil_type_at.ensures a.top.0 c.if-nil_type_at.true

pub returns : goal.returns
returns c =
    let i = c in
    let a = i.args in
    after-used a.img.now a.own.0 i.nil_type_at.ensures a.top.0 i.if-nil_type_at.false c.first_at-first.ensures
