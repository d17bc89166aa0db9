-- `windows_staged::inner::store_stage` meets its contract: a store in the tail, or in the part that the head lends. Assumes nothing.
use mathlib.Core.Path.{◌≡◌, refl, ap, ◌∙◌}
use mathlib.Core.Bool.{Bool, ◌||◌}
use Prim.Native.Nat.{◌+◌}
use native.Mathlib.Omega.{arith}
use borrow.Author.Rules.{rules}
use borrow.Author.Tests.{lt-ltb, le-ltb}
use lib.Dec.{eqb}
use lib.ListN.{length}
use lib.Seq.{length-sets}
use Rattle.units.proofs.Lists.{length-lent}
use Rattle.tables.specs.Lens.{Front}
use Rattle.tables.proofs.Good.{room-ok}
use Rattle.staged.specs.Stores.{store_in, store_bytes}
use Rattle.staged.proofs.Places.{lent-sets, store-fits}
use Rattle.windows_staged.proofs.inner.store_stage.Goals as goal

pub store_copy-requires : goal.store_copy-requires
store_copy-requires c = (c.requires.0, c.requires.1, c.requires.3)

pub shape_of-tail-then-k-lt3 : goal.shape_of-tail-then-k-lt3
shape_of-tail-then-k-lt3 c = ap length c.store_copy.ensures ∙ simp length-sets

pub returns-then-k-lt3 : goal.returns-then-k-lt3
returns-then-k-lt3 c = let a = c.args in rw (lt-ltb a.k 3 c.if-k-lt3.true) (refl, c.store_copy.ensures)

pub overflow_add-size : goal.overflow_add-size
overflow_add-size c = omega (arith, (room-ok _ _ c.requires.0).most)

pub overflow_add-size-2 : goal.overflow_add-size-2
overflow_add-size-2 c = omega (arith, (room-ok _ _ c.requires.0).most)

pub slice_bounds-store_copy-end : goal.slice_bounds-store_copy-end
slice_bounds-store_copy-end c = omega (arith, c.requires.2)

pub store_copy-requires-2 : goal.store_copy-requires-2
store_copy-requires-2 c =
    let a = c.args in
    (c.requires.0, c.requires.1, length-lent a.head.now a.u.b (a.u.b + 16384) (omega (arith, c.requires.2)))

pub returns : goal.returns
returns c =
    let long : length c.args.u.entry ≡ 128 = search rules in
    let a = c.args in
    let header : Bool = eqb a.k 2 || eqb a.k 4 in
    rw (le-ltb a.k 3 c.if-k-lt3.false) (
      lent-sets a.head.now a.u.b (a.u.b + 16384) (store_in a.u.b Front a.u header) (store_bytes a.u.b a.u.len Front a.u header) (omega (arith, c.requires.2))
          (store-fits a.u.b a.u.len Front a.u header (room-ok _ _ c.requires.0) c.requires.1 long) c.store_copy-2.ensures,
      refl,
    )
