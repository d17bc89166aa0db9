-- `windows_listing::inner::plan_in` meets its contract. Assumes nothing.
use native.Mathlib.Omega.{arith}
use Rattle.reader.proofs.Ways.{array-inside}
use Rattle.tables.specs.Check.{check}
use Rattle.windows.proofs.Ways.{why-fits}
use Rattle.windows_listing.proofs.Ways.{plan-refused, plan-listed}
use Rattle.windows_listing.proofs.inner.plan_in.Goals as goal

pub returns-then-found-ne0 : goal.returns-then-found-ne0
returns-then-found-ne0 c = let a = c.args in plan-refused a.b a.blocks a.head.now a.tail.now c.check_in-found.ensures c.if-found-ne0.true c.reason.ensures c.refused.ensures

pub front_array-requires : goal.front_array-requires
front_array-requires c = let a = c.args in (why-fits a.b a.blocks a.head.now a.tail.now (check a.b) c.check_in-found.ensures c.if-found-ne0.false).room.most

pub listing-requires : goal.listing-requires
listing-requires c =
    let a = c.args in
    let q = why-fits a.b a.blocks a.head.now a.tail.now (check a.b) c.check_in-found.ensures c.if-found-ne0.false in
    array-inside _ _ (omega (arith, c.front_array.ensures, q.head-long))

pub returns : goal.returns
returns c = let a = c.args in plan-listed a.b a.blocks a.head.now a.tail.now c.check_in-found.ensures c.if-found-ne0.false c.front_array.ensures c.listing.ensures
