-- `windows_staged::inner::store_header` meets its contract. Assumes nothing.
use mathlib.Core.Path.{refl, ap, ◌∙◌}
use Prim.Native.Nat.{◌+◌}
use native.Mathlib.Omega.{arith}
use lib.ListN.{length}
use lib.Seq.{length-sets}
use Rattle.units.proofs.Lists.{length-lent}
use Rattle.tables.specs.Lens.{Front, header_in}
use Rattle.tables.specs.Headers.{head_block}
use Rattle.tables.proofs.Good.{room-ok}
use Rattle.staged.proofs.Places.{lent-sets, header-fits}
use Rattle.windows_staged.proofs.inner.store_header.Goals as goal

pub put_header-requires : goal.put_header-requires
put_header-requires c = (c.requires.0, c.requires.2)

pub shape_of-tail-then-back : goal.shape_of-tail-then-back
shape_of-tail-then-back c = ap length c.put_header.ensures ∙ simp length-sets

pub returns-then-back : goal.returns-then-back
returns-then-back c = rw c.if-back.true (refl, c.put_header.ensures)

pub overflow_add-size : goal.overflow_add-size
overflow_add-size c = omega (arith, (room-ok _ _ c.requires.0).most)

pub overflow_add-size-2 : goal.overflow_add-size-2
overflow_add-size-2 c = omega (arith, (room-ok _ _ c.requires.0).most)

pub slice_bounds-put_header-end : goal.slice_bounds-put_header-end
slice_bounds-put_header-end c = omega (arith, c.requires.1)

pub put_header-requires-2 : goal.put_header-requires-2
put_header-requires-2 c =
    let a = c.args in
    (c.requires.0, length-lent a.head.now a.r.b (a.r.b + 16384) (omega (arith, c.requires.1)))

pub returns : goal.returns
returns c =
    let a = c.args in
    rw c.if-back.false (
      lent-sets a.head.now a.r.b (a.r.b + 16384) (header_in Front) (head_block a.r.b a.r.len Front a.r.guid a.r.parts) (omega (arith, c.requires.1))
          (header-fits a.r.b a.r.len Front a.r.guid a.r.parts (room-ok _ _ c.requires.0)) c.put_header-2.ensures,
      refl,
    )
