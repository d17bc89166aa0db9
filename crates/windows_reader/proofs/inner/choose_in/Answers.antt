-- `windows_reader::inner::choose_in` meets its contract: the windows' own numbers first, and then the two copies that they lend. Assumes nothing.
use mathlib.Core.Path.{sym, ap, ◌∙◌}
use mathlib.Core.List.{List}
use Prim.Native.Nat.{ℕ, ◌+◌, ◌*◌}
use native.Mathlib.Omega.{arith}
use Rattle.units.proofs.Lists.{length-lent, lent-part}
use Rattle.tables.specs.Lens.{copies}
use Rattle.reader.specs.Reader.{chosen_number, takes_back}
use Rattle.windows.proofs.Whole.{fits_by}
use Rattle.windows_reader.proofs.Ways.{wrong-window, chosen-in}
use Rattle.windows_reader.proofs.inner.choose_in.Goals as goal

pub returns-then-wrong-ne0 : goal.returns-then-wrong-ne0
returns-then-wrong-ne0 c = let a = c.args in wrong-window a.b a.blocks a.head.now a.tail.now c.window_check-wrong.ensures c.if-wrong-ne0.true

pub overflow_mul-len : goal.overflow_mul-len
overflow_mul-len c =
    let a = c.args in
    omega (arith, (fits_by a.b a.blocks a.head.now a.tail.now (sym c.window_check-wrong.ensures ∙ c.if-wrong-ne0.false)).width)

pub overflow_add-size : goal.overflow_add-size
overflow_add-size c =
    let a = c.args in
    omega (arith, (fits_by a.b a.blocks a.head.now a.tail.now (sym c.window_check-wrong.ensures ∙ c.if-wrong-ne0.false)).room.most)

pub overflow_add-size-2 : goal.overflow_add-size-2
overflow_add-size-2 c =
    let a = c.args in
    omega (arith, (fits_by a.b a.blocks a.head.now a.tail.now (sym c.window_check-wrong.ensures ∙ c.if-wrong-ne0.false)).room.most)

pub slice_bounds-choose_copy-end : goal.slice_bounds-choose_copy-end
slice_bounds-choose_copy-end c =
    let a = c.args in
    omega (arith, (fits_by a.b a.blocks a.head.now a.tail.now (sym c.window_check-wrong.ensures ∙ c.if-wrong-ne0.false)).head-long)

pub choose_copy-requires : goal.choose_copy-requires
choose_copy-requires c =
    let a = c.args in
    let q = (fits_by a.b a.blocks a.head.now a.tail.now (sym c.window_check-wrong.ensures ∙ c.if-wrong-ne0.false)) in
    (q.roomy, length-lent a.head.now a.b (a.b + 16384) (omega (arith, q.head-long)), q.tail-long)

pub returns : goal.returns
returns c =
    let a = c.args in
    let e = c.choose_copy.ensures in
    let p = lent-part a.head.now a.b (a.b + 16384) in
    chosen-in a.b a.blocks a.head.now a.tail.now (sym c.window_check-wrong.ensures ∙ c.if-wrong-ne0.false) (fits_by a.b a.blocks a.head.now a.tail.now (sym c.window_check-wrong.ensures ∙ c.if-wrong-ne0.false))
    (e.number_value ∙ ap (λ (l : List ℕ). chosen_number a.b (a.blocks * a.b) (copies a.b l a.tail.now)) p)
    (e.back_value ∙ ap (λ (l : List ℕ). takes_back a.b (a.blocks * a.b) (copies a.b l a.tail.now)) p)
