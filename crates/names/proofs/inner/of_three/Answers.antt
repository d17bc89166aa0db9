-- `names::inner::of_three` meets its contract. Assumes nothing.
use Rattle.names.proofs.Ways.{three-second, three_third, three-whole}
use Rattle.std.proofs.Common.{ap}
use Rattle.std.specs.Prelude.{not}
use Rattle.names.proofs.inner.of_three.Goals as goal

pub returns-then-not-is_between : goal.returns-then-not-is_between
returns-then-not-is_between c = three-second _ _ _ c.is_between.ensures (ap not c.if-not-is_between.true) c.none.ensures

pub returns-then-not-is_between-2 : goal.returns-then-not-is_between-2
returns-then-not-is_between-2 c =
    let d = c in
    three_third _ _ _ d.is_between.ensures (ap not d.if-not-is_between.false) c.is_between-2.ensures (ap not c.if-not-is_between-2.true) c.none-then-not-is_between-2.ensures

pub returns : goal.returns
returns c =
    let d = c in
    three-whole _ _ _ d.is_between.ensures (ap not d.if-not-is_between.false) c.is_between-2.ensures (ap not c.if-not-is_between-2.false) c.in_range.ensures
