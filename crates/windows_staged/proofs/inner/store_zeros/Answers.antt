-- `windows_staged::inner::store_zeros` meets its contract. Assumes nothing.
use mathlib.Core.Path.{refl, ap, ◌∙◌}
use Prim.Native.Nat.{◌+◌}
use native.Mathlib.Omega.{arith}
use lib.ListN.{length}
use lib.Seq.{length-sets}
use Rattle.units.proofs.Lists.{length-lent}
use Rattle.tables.specs.Lens.{Front, header_in}
use Rattle.tables.specs.Entries.{zeros}
use Rattle.staged.proofs.Places.{lent-sets, zeros-fit}
use Rattle.windows_staged.proofs.inner.store_zeros.Goals as goal

pub zero_header-requires : goal.zero_header-requires
zero_header-requires c = c.requires.2

pub shape_of-tail-then-back : goal.shape_of-tail-then-back
shape_of-tail-then-back c = ap length c.zero_header.ensures ∙ simp length-sets

pub returns-then-back : goal.returns-then-back
returns-then-back c = rw c.if-back.true (refl, c.zero_header.ensures)

pub overflow_add-size : goal.overflow_add-size
overflow_add-size c = omega (arith, c.requires.0)

pub overflow_add-size-2 : goal.overflow_add-size-2
overflow_add-size-2 c = omega (arith, c.requires.0)

pub slice_bounds-zero_header-end : goal.slice_bounds-zero_header-end
slice_bounds-zero_header-end c = omega (arith, c.requires.1)

pub zero_header-requires-2 : goal.zero_header-requires-2
zero_header-requires-2 c = length-lent c.args.head.now c.args.b (c.args.b + 16384) (omega (arith, c.requires.1))

pub returns : goal.returns
returns c =
    let a = c.args in
    rw c.if-back.false (lent-sets a.head.now a.b (a.b + 16384) (header_in Front) (zeros a.b) (omega (arith, c.requires.1)) (zeros-fit a.b Front) c.zero_header-2.ensures, refl)
