-- `windows::inner::check_in` meets its contract: the windows' own numbers first, and then the two copies that they lend. Assumes nothing.
use mathlib.Core.Path.{refl, sym, ap, ◌∙◌}
use mathlib.Core.List.{List}
use Prim.Native.Nat.{◌+◌, ◌*◌}
use native.Mathlib.Omega.{arith}
use lib.ListN.{length}
use Rattle.units.proofs.Lists.{length-lent, lent-part}
use Rattle.units.proofs.Chains.{found-bare, past}
use Rattle.tables.specs.Lens.{copies}
use Rattle.tables.specs.Check.{check}
use Rattle.windows.specs.Windows.{window_check}
use Rattle.windows.proofs.Whole.{fits_by}
use Rattle.windows.proofs.Ways.{bare-window}
use Rattle.windows.proofs.inner.check_in.Goals as goal

pub returns-then-wrong-ne0 : goal.returns-then-wrong-ne0
returns-then-wrong-ne0 c =
    let a = c.args in
    c.by_number.ensures ∙ found-bare (window_check a.b a.blocks (length a.head.now) (length a.tail.now)) _ (bare-window a.b a.blocks (length a.head.now) (length a.tail.now)) c.window_check-wrong.ensures c.if-wrong-ne0.true

pub overflow_mul-len : goal.overflow_mul-len
overflow_mul-len c = omega (arith, (let a = c.args in fits_by a.b a.blocks a.head.now a.tail.now (sym c.window_check-wrong.ensures ∙ c.if-wrong-ne0.false)).width)

pub overflow_add-front : goal.overflow_add-front
overflow_add-front c = omega (arith, (let a = c.args in fits_by a.b a.blocks a.head.now a.tail.now (sym c.window_check-wrong.ensures ∙ c.if-wrong-ne0.false)).room.most)

pub overflow_add-front-2 : goal.overflow_add-front-2
overflow_add-front-2 c = omega (arith, (let a = c.args in fits_by a.b a.blocks a.head.now a.tail.now (sym c.window_check-wrong.ensures ∙ c.if-wrong-ne0.false)).room.most)

pub slice_bounds-front-end : goal.slice_bounds-front-end
slice_bounds-front-end c = omega (arith, (let a = c.args in fits_by a.b a.blocks a.head.now a.tail.now (sym c.window_check-wrong.ensures ∙ c.if-wrong-ne0.false)).head-long)

pub copies_check-requires : goal.copies_check-requires
copies_check-requires c =
    let a = c.args in
    let q = (let a = c.args in fits_by a.b a.blocks a.head.now a.tail.now (sym c.window_check-wrong.ensures ∙ c.if-wrong-ne0.false)) in
    (q.roomy, length-lent a.head.now a.b (a.b + 16384) (omega (arith, q.head-long)), q.tail-long)

pub returns : goal.returns
returns c =
    let a = c.args in
    past {f = window_check a.b a.blocks (length a.head.now) (length a.tail.now)} refl (sym c.window_check-wrong.ensures ∙ c.if-wrong-ne0.false)
    (c.copies_check.ensures ∙ ap (λ (l : List _). check a.b (a.blocks * a.b) (copies a.b l a.tail.now)) (lent-part a.head.now a.b (a.b + 16384)))
