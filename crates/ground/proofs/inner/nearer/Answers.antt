-- `ground::inner::nearer` meets its contract: one law for each way out. Assumes nothing.
use Rattle.ground.proofs.SearchLaws.{nearer-early, nearer-late, nearer-unused, nearer-used}
use Rattle.ground.proofs.inner.nearer.Goals as goal

pub returns-then-first-x : goal.returns-then-first-x
returns-then-first-x c =
    let f = c in
    let a = f.args in
    nearer-early a.copy.now a.own.0 a.x.0 a.best f.first_at-first.ensures c.if-first-x.true

pub returns-then-best-first : goal.returns-then-best-first
returns-then-best-first c =
    let i = c in
    let f = i in
    let a = f.args in
    nearer-late a.copy.now a.own.0 a.x.0 a.best f.first_at-first.ensures i.if-first-x.false c.if-best-first.true

pub returns-then-nil_type_at : goal.returns-then-nil_type_at
returns-then-nil_type_at c =
    let j = c in
    let i = j in
    let f = i in
    let a = f.args in
    nearer-unused a.copy.now a.own.0 a.x.0 a.best f.first_at-first.ensures i.if-first-x.false j.if-best-first.false c.nil_type_at.ensures c.if-nil_type_at.true

pub returns : goal.returns
returns c =
    let n = c in
    let j = n in
    let i = j in
    let f = i in
    let a = f.args in
    nearer-used a.copy.now a.own.0 a.x.0 a.best f.first_at-first.ensures i.if-first-x.false j.if-best-first.false n.nil_type_at.ensures c.if-nil_type_at.false c.last_at-last.ensures
