-- `windows_listing::free_runs` meets its contract: the check first, and then the runs of the head's front table. Assumes nothing.
use mathlib.Core.Path.{refl}
use native.Mathlib.Omega.{arith}
use Rattle.tables.specs.Check.{check}
use Rattle.ground.proofs.Ways.{rows-answered}
use Rattle.windows.proofs.Ways.{why-fits}
use Rattle.windows_listing.proofs.Ways.{free-refused, free-checked, free-given}
use Rattle.windows_listing.proofs.free_runs.Goals as goal

pub returns-then-found-ne0 : goal.returns-then-found-ne0
returns-then-found-ne0 c =
    let a = c.args in
    rows-answered _ 0 c.if-found-ne0.true c.answer.ensures
    (free-refused a.b a.blocks a.head.now a.tail.now c.check_in-found.ensures a.starts.now a.lengths.now c.if-found-ne0.true refl)

pub overflow_mul-len : goal.overflow_mul-len
overflow_mul-len c = omega (arith, (let a = c.args in why-fits a.b a.blocks a.head.now a.tail.now (check a.b) c.check_in-found.ensures c.if-found-ne0.false).width)

pub overflow_add-front : goal.overflow_add-front
overflow_add-front c = omega (arith, (let a = c.args in why-fits a.b a.blocks a.head.now a.tail.now (check a.b) c.check_in-found.ensures c.if-found-ne0.false).room.most)

pub overflow_add-front-2 : goal.overflow_add-front-2
overflow_add-front-2 c = omega (arith, (let a = c.args in why-fits a.b a.blocks a.head.now a.tail.now (check a.b) c.check_in-found.ensures c.if-found-ne0.false).room.most)

pub slice_bounds-front-end : goal.slice_bounds-front-end
slice_bounds-front-end c = omega (arith, (let a = c.args in why-fits a.b a.blocks a.head.now a.tail.now (check a.b) c.check_in-found.ensures c.if-found-ne0.false).head-long)

pub runs_into-requires : goal.runs_into-requires
runs_into-requires c = let a = c.args in free-checked a.b a.blocks a.head.now a.tail.now c.check_in-found.ensures c.if-found-ne0.false

pub returns : goal.returns
returns c = let a = c.args in free-given a.b a.blocks a.head.now a.tail.now c.check_in-found.ensures a.starts.now a.lengths.now c.if-found-ne0.false c.runs_into.ensures
