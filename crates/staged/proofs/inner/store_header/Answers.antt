-- `staged::inner::store_header` meets its contract: a store in the part that the image lends. Assumes nothing.
use mathlib.Core.Path.{ap, ◌∙◌}
use mathlib.Core.List.{List}
use Prim.Native.Nat.{ℕ, ◌+◌}
use native.Mathlib.Omega.{arith}
use lib.ListN.{length}
use lib.Seq.{sets}
use Rattle.units.proofs.Lists.{length-lent}
use Rattle.tables.specs.Lens.{side_of, header_in}
use Rattle.tables.specs.Headers.{head_block}
use Rattle.tables.proofs.Good.{room-ok}
use Rattle.staged.specs.Stores.{header_store}
use Rattle.staged.proofs.Places.{lent-sets, header-fits, header-from}
use Rattle.staged.proofs.inner.store_header.Goals as goal

pub copy_place-place-requires : goal.copy_place-place-requires
copy_place-place-requires c = c.requires

pub overflow_add-size : goal.overflow_add-size
overflow_add-size c = omega (arith, (room-ok _ _ c.requires).most, c.copy_place-place.ensures.1)

pub overflow_add-at : goal.overflow_add-at
overflow_add-at c = omega (arith, (room-ok _ _ c.requires).most, c.copy_place-place.ensures.1)

pub slice_bounds-put_header-end : goal.slice_bounds-put_header-end
slice_bounds-put_header-end c = omega (arith, c.copy_place-place.ensures.1)

pub put_header-requires : goal.put_header-requires
put_header-requires c =
    let a = c.args in
    (c.requires, length-lent a.img.now c.copy_place-place.result.0 (a.b + 16384) c.copy_place-place.ensures.1)

pub returns : goal.returns
unfolding header_store
returns c =
    let a = c.args in
    let h : List ℕ = head_block a.b (length a.img.now) (side_of a.back) a.guid a.parts in
    (let a = c.args in lent-sets a.img.now c.copy_place-place.result.0 (a.b + 16384) (header_in (side_of a.back)) (head_block a.b (length a.img.now) (side_of a.back) a.guid a.parts) c.copy_place-place.ensures.1 (header-fits a.b (length a.img.now) (side_of a.back) a.guid a.parts (room-ok _ _ c.requires)) c.put_header.ensures)
    ∙ ap (λ (p : ℕ). sets a.img.now (p + header_in (side_of a.back)) h) c.copy_place-place.ensures.0
    ∙ ap (λ (p : ℕ). sets a.img.now p h) (header-from a.b (length a.img.now) (room-ok _ _ c.requires) (side_of a.back))
