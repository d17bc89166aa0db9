-- `names::inner::of_four` meets its contract. Assumes nothing.
use Rattle.names.proofs.Ways.{four-second, four-third, four-fourth, four-whole}
use Rattle.std.proofs.Common.{ap}
use Rattle.std.specs.Prelude.{not}
use Rattle.names.proofs.inner.of_four.Goals as goal

pub returns-then-not-is_between : goal.returns-then-not-is_between
returns-then-not-is_between c = four-second _ _ _ _ c.is_between.ensures (ap not c.if-not-is_between.true) c.none.ensures

pub returns-then-not-is_between-2 : goal.returns-then-not-is_between-2
returns-then-not-is_between-2 c =
    let d = c in
    four-third _ _ _ _ d.is_between.ensures (ap not d.if-not-is_between.false) c.is_between-2.ensures (ap not c.if-not-is_between-2.true) c.none-then-not-is_between-2.ensures

pub returns-then-not-is_between-3 : goal.returns-then-not-is_between-3
returns-then-not-is_between-3 c =
    let e = c in
    let d = e in
    four-fourth _ _ _ _ d.is_between.ensures (ap not d.if-not-is_between.false) e.is_between-2.ensures (ap not e.if-not-is_between-2.false) c.is_between-3.ensures (ap not c.if-not-is_between-3.true)
    c.none-then-not-is_between-3.ensures

pub returns : goal.returns
returns c =
    let e = c in
    let d = e in
    four-whole _ _ _ _ d.is_between.ensures (ap not d.if-not-is_between.false) e.is_between-2.ensures (ap not e.if-not-is_between-2.false) c.is_between-3.ensures (ap not c.if-not-is_between-3.false)
    c.in_range.ensures
