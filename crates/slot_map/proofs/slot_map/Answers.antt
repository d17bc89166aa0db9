-- `slot_map::slot_map` meets its contract: the check first, and then the map of the front table. Assumes nothing.
use mathlib.Core.Path.{refl, sym, ◌∙◌}
use native.Mathlib.Omega.{arith}
use Rattle.units.proofs.Chains.{number-of}
use Rattle.slot_map.proofs.Ways.{room_in, front-in, lent-long, made-means, answer-refused, answer-made}
use Rattle.slot_map.proofs.slot_map.Goals as goal

pub returns-then-found-ne0 : goal.returns-then-found-ne0
returns-then-found-ne0 c =
    let a = c.args in
    made-means _ _ c.if-found-ne0.true c.made.ensures ∙ answer-refused a.b a.img.now c.check_with-found.ensures c.if-found-ne0.true refl

pub overflow_add-size : goal.overflow_add-size
overflow_add-size c = let a = c.args in omega (arith, (room_in a.b a.img.now (sym (number-of c.check_with-found.ensures) ∙ c.if-found-ne0.false)).most)

pub overflow_add-size-2 : goal.overflow_add-size-2
overflow_add-size-2 c = let a = c.args in omega (arith, (room_in a.b a.img.now (sym (number-of c.check_with-found.ensures) ∙ c.if-found-ne0.false)).most)

pub slice_bounds-map_of-end : goal.slice_bounds-map_of-end
slice_bounds-map_of-end c = let a = c.args in omega (arith, front-in a.b a.img.now (sym (number-of c.check_with-found.ensures) ∙ c.if-found-ne0.false))

pub map_of-requires : goal.map_of-requires
map_of-requires c =
    let a = c.args in
    ((room_in a.b a.img.now (sym (number-of c.check_with-found.ensures) ∙ c.if-found-ne0.false)).most, lent-long a.b a.img.now (sym (number-of c.check_with-found.ensures) ∙ c.if-found-ne0.false))

pub returns : goal.returns
returns c =
    let a = c.args in
    answer-made a.b a.img.now c.check_with-found.ensures c.if-found-ne0.false c.map_of.ensures
