-- `windows_listing::slot_map` meets its contract: the check first, and then the map of the head's front table. Assumes nothing.
use mathlib.Core.Path.{refl, ◌∙◌}
use Prim.Native.Nat.{ℕ, ◌+◌}
use native.Mathlib.Omega.{arith}
use Rattle.units.proofs.Lists.{length-lent}
use Rattle.tables.specs.Lens.{Tables}
use Rattle.tables.specs.Check.{check}
use Rattle.checking.proofs.CheckWays.{named-check}
use Rattle.slot_map.specs.Map.{flags_from}
use Rattle.slot_map.proofs.Ways.{made-means}
use Rattle.windows.proofs.Ways.{why-fits}
use Rattle.windows_listing.proofs.Ways.{refuses, map-given}
use Rattle.windows_listing.proofs.slot_map.Goals as goal

pub returns-then-found-ne0 : goal.returns-then-found-ne0
returns-then-found-ne0 c =
    let a = c.args in
    made-means _ _ c.if-found-ne0.true c.made.ensures
    ∙ refuses a.b a.blocks a.head.now a.tail.now (check a.b) (named-check a.b) c.check_in-found.ensures (λ (n : ℕ) (t : Tables). flags_from t.front.array 0 128) c.if-found-ne0.true refl

pub overflow_add-front : goal.overflow_add-front
overflow_add-front c = omega (arith, (let a = c.args in why-fits a.b a.blocks a.head.now a.tail.now (check a.b) c.check_in-found.ensures c.if-found-ne0.false).room.most)

pub overflow_add-front-2 : goal.overflow_add-front-2
overflow_add-front-2 c = omega (arith, (let a = c.args in why-fits a.b a.blocks a.head.now a.tail.now (check a.b) c.check_in-found.ensures c.if-found-ne0.false).room.most)

pub slice_bounds-front-end : goal.slice_bounds-front-end
slice_bounds-front-end c = omega (arith, (let a = c.args in why-fits a.b a.blocks a.head.now a.tail.now (check a.b) c.check_in-found.ensures c.if-found-ne0.false).head-long)

pub map_of-requires : goal.map_of-requires
map_of-requires c =
    let a = c.args in
    let q = (let a = c.args in why-fits a.b a.blocks a.head.now a.tail.now (check a.b) c.check_in-found.ensures c.if-found-ne0.false) in
    (q.room.most, length-lent a.head.now a.b (a.b + 16384) (omega (arith, q.head-long)))

pub returns : goal.returns
returns c = let a = c.args in map-given a.b a.blocks a.head.now a.tail.now c.check_in-found.ensures c.map_of.result c.if-found-ne0.false c.map_of.ensures
