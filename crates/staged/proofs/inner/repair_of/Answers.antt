-- `staged::inner::repair_of` meets its contract. Assumes nothing.
use mathlib.Core.Path.{ap, ◌∙◌}
use Prim.Native.Nat.{◌+◌}
use native.Mathlib.Omega.{arith}
use lib.ListN.{length}
use Rattle.units.proofs.Lists.{length-lent}
use Rattle.tables.specs.Lens.{Copy, side_of, tables}
use Rattle.tables.specs.Check.{table_check}
use Rattle.tables.proofs.Good.{room-ok}
use Rattle.staged.proofs.Places.{lent-copy}
use Rattle.staged.proofs.inner.repair_of.Goals as goal

pub copy_place-place-requires : goal.copy_place-place-requires
copy_place-place-requires c = c.requires.img_value

pub overflow_add-size : goal.overflow_add-size
overflow_add-size c = omega (arith, (room-ok _ _ c.requires.img_value).most, c.copy_place-place.ensures.1)

pub overflow_add-at : goal.overflow_add-at
overflow_add-at c = omega (arith, (room-ok _ _ c.requires.img_value).most, c.copy_place-place.ensures.1)

pub slice_bounds-repair_by-end : goal.slice_bounds-repair_by-end
slice_bounds-repair_by-end c = omega (arith, c.copy_place-place.ensures.1)

pub repair_by-requires : goal.repair_by-requires
repair_by-requires c =
    let a = c.args in record { len_value = (c.requires.img_value, length-lent a.img.now c.copy_place-place.result.0 (a.b + 16384) c.copy_place-place.ensures.1); copy_value = ap (λ (x : Copy). (table_check a.b (length a.img.now) (side_of a.back) x).number) (lent-copy a.b a.img.now (side_of a.back) (room-ok _ _ c.requires.img_value) c.copy_place-place.ensures.0) ∙ c.requires.img_value_2 }

pub returns : goal.returns
returns c =
    let a = c.args in
    c.repair_by.ensures (tables a.b a.img.now) (lent-copy a.b a.img.now (side_of a.back) (room-ok _ _ c.requires.img_value) c.copy_place-place.ensures.0)
