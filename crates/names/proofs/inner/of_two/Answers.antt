-- `names::inner::of_two` meets its contract. Assumes nothing.
use Rattle.names.proofs.Ways.{two-broken, two-whole}
use Rattle.std.proofs.Common.{ap}
use Rattle.std.specs.Prelude.{not}
use Rattle.names.proofs.inner.of_two.Goals as goal

pub returns-then-not-is_between : goal.returns-then-not-is_between
returns-then-not-is_between c = two-broken _ _ c.is_between.ensures (ap not c.if-not-is_between.true) c.none.ensures

pub returns : goal.returns
returns c = two-whole _ _ c.is_between.ensures (ap not c.if-not-is_between.false) c.in_range.ensures
