-- `ground::free_runs` meets its contract: the check first, and then the runs of the front table. Assumes nothing.
use mathlib.Core.Path.{refl, sym, ◌∙◌}
use native.Mathlib.Omega.{arith}
use Rattle.units.proofs.Chains.{number-of}
use Rattle.ground.proofs.Ways.{room_in, front-in, checked-lent, rows-answered, ground-refused, ground-given}
use Rattle.ground.proofs.free_runs.Goals as goal

pub returns-then-found-ne0 : goal.returns-then-found-ne0
returns-then-found-ne0 c =
    let a = c.args in
    rows-answered _ 0 c.if-found-ne0.true c.answer.ensures (ground-refused a.b a.img.now a.starts.now a.lengths.now c.check_with-found.ensures c.if-found-ne0.true refl)

pub overflow_add-size : goal.overflow_add-size
overflow_add-size c = let a = c.args in omega (arith, (room_in a.b a.img.now (sym (number-of c.check_with-found.ensures) ∙ c.if-found-ne0.false)).most)

pub overflow_add-size-2 : goal.overflow_add-size-2
overflow_add-size-2 c = let a = c.args in omega (arith, (room_in a.b a.img.now (sym (number-of c.check_with-found.ensures) ∙ c.if-found-ne0.false)).most)

pub slice_bounds-runs_into-end : goal.slice_bounds-runs_into-end
slice_bounds-runs_into-end c = let a = c.args in omega (arith, front-in a.b a.img.now (sym (number-of c.check_with-found.ensures) ∙ c.if-found-ne0.false))

pub runs_into-requires : goal.runs_into-requires
runs_into-requires c =
    let a = c.args in
    checked-lent a.b a.img.now (sym (number-of c.check_with-found.ensures) ∙ c.if-found-ne0.false)

pub returns : goal.returns
returns c =
    let a = c.args in
    ground-given a.b a.img.now a.starts.now a.lengths.now c.check_with-found.ensures c.if-found-ne0.false c.runs_into.ensures
