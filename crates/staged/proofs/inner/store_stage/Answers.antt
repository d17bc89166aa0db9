-- `staged::inner::store_stage` meets its contract: a store in the part that the image lends. Assumes nothing.
use mathlib.Core.Path.{ap, ◌∙◌}
use mathlib.Core.Bool.{◌||◌}
use Prim.Native.Nat.{ℕ, ◌+◌}
use native.Mathlib.Omega.{arith}
use borrow.Author.Rules.{rules}
use lib.Dec.{eqb, ltb}
use lib.Seq.{sets}
use Rattle.units.proofs.Lists.{length-lent}
use Rattle.tables.specs.Lens.{side_of}
use Rattle.tables.proofs.Good.{room-ok}
use Rattle.staged.specs.Stores.{store_in, store_bytes}
use Rattle.staged.proofs.Places.{lent-sets, store-fits, stage_is}
use Rattle.staged.proofs.inner.store_stage.Goals as goal

pub copy_place-place-requires : goal.copy_place-place-requires
copy_place-place-requires c = c.requires.len_value.0

pub overflow_add-size : goal.overflow_add-size
overflow_add-size c = omega (arith, (room-ok _ _ c.requires.len_value.0).most, c.copy_place-place.ensures.1, c.requires.len_value.2)

pub overflow_add-at : goal.overflow_add-at
overflow_add-at c = omega (arith, (room-ok _ _ c.requires.len_value.0).most, c.copy_place-place.ensures.1, c.requires.len_value.2)

pub slice_bounds-store_copy-end : goal.slice_bounds-store_copy-end
slice_bounds-store_copy-end c = omega (arith, c.copy_place-place.ensures.1, c.requires.len_value.2)

pub store_copy-requires : goal.store_copy-requires
store_copy-requires c =
    let a = c.args in
    (c.requires.len_value.0, c.requires.len_value.1, length-lent a.img.now c.copy_place-place.result.0 (a.u.b + 16384) (omega (arith, c.copy_place-place.ensures.1, c.requires.len_value.2)))

pub returns : goal.returns
returns c =
    let a = c.args in
    (let a = c.args in lent-sets a.img.now c.copy_place-place.result.0 (a.u.b + 16384) (store_in a.u.b (side_of (ltb a.k 3)) a.u (eqb a.k 2 || eqb a.k 4)) (store_bytes a.u.b a.u.len (side_of (ltb a.k 3)) a.u (eqb a.k 2 || eqb a.k 4)) (omega (arith, c.copy_place-place.ensures.1, c.requires.len_value.2)) (store-fits a.u.b a.u.len (side_of (ltb a.k 3)) a.u (eqb a.k 2 || eqb a.k 4) (room-ok _ _ c.requires.len_value.0) c.requires.len_value.1 (search rules)) c.store_copy.ensures)
    ∙ ap (λ (p : ℕ). sets a.img.now (p + store_in a.u.b (side_of (ltb a.k 3)) a.u (eqb a.k 2 || eqb a.k 4)) (store_bytes a.u.b a.u.len (side_of (ltb a.k 3)) a.u (eqb a.k 2 || eqb a.k 4))) c.copy_place-place.ensures.0
    ∙ stage_is a.u.b a.u.len a.u a.img.now a.k (room-ok _ _ c.requires.len_value.0) c.requires.le_k.0 c.requires.le_k.1
