-- `windows::inner::put_check_in` meets its contract. Assumes nothing.
use mathlib.Core.Path.{ap, ◌∙◌}
use mathlib.Core.List.{List}
use Prim.Native.Nat.{ℕ, ◌+◌, ◌*◌}
use native.Mathlib.Omega.{arith}
use Rattle.units.specs.declared.why.Why.{Why}
use Rattle.units.proofs.Lists.{length-lent, lent-part}
use Rattle.tables.specs.Lens.{Front, copy_in, Tables}
use Rattle.tables.specs.Check.{check}
use Rattle.card.specs.Calls.{entry_check, put_check}
use Rattle.windows.proofs.Ways.{then_found, then-passed, why-fits}
use Rattle.windows.proofs.inner.put_check_in.Goals as goal

abbrev more : ℕ → ℕ → List ℕ → ℕ → ℕ → Tables → Why
more B s e reserved n t = entry_check B n t.front.array s e reserved

pub returns-then-found-ne0 : goal.returns-then-found-ne0
unfolding put_check
returns-then-found-ne0 c =
    let a = c.args in
    then_found a.b a.blocks a.head.now a.tail.now (check a.b) (more a.b a.slot.0 a.e.now a.reserved) c.check_in-found.ensures c.if-found-ne0.true

pub overflow_mul-len : goal.overflow_mul-len
overflow_mul-len c = omega (arith, (let a = c.args in why-fits a.b a.blocks a.head.now a.tail.now (check a.b) c.check_in-found.ensures c.if-found-ne0.false).width)

pub overflow_add-front : goal.overflow_add-front
overflow_add-front c = omega (arith, (let a = c.args in why-fits a.b a.blocks a.head.now a.tail.now (check a.b) c.check_in-found.ensures c.if-found-ne0.false).room.most)

pub overflow_add-front-2 : goal.overflow_add-front-2
overflow_add-front-2 c = omega (arith, (let a = c.args in why-fits a.b a.blocks a.head.now a.tail.now (check a.b) c.check_in-found.ensures c.if-found-ne0.false).room.most)

pub slice_bounds-front-end : goal.slice_bounds-front-end
slice_bounds-front-end c = omega (arith, (let a = c.args in why-fits a.b a.blocks a.head.now a.tail.now (check a.b) c.check_in-found.ensures c.if-found-ne0.false).head-long)

pub entry_check-requires : goal.entry_check-requires
entry_check-requires c =
    let q = (let a = c.args in why-fits a.b a.blocks a.head.now a.tail.now (check a.b) c.check_in-found.ensures c.if-found-ne0.false) in
    (q.roomy, length-lent c.args.head.now c.args.b (c.args.b + 16384) (omega (arith, q.head-long)), c.requires)

pub returns : goal.returns
unfolding put_check
returns c =
    let a = c.args in
    then-passed a.b a.blocks a.head.now a.tail.now (check a.b) (more a.b a.slot.0 a.e.now a.reserved) c.check_in-found.ensures c.if-found-ne0.false
    (c.entry_check.ensures ∙ ap (λ (l : List ℕ). entry_check a.b (a.blocks * a.b) (copy_in a.b Front l).array a.slot.0 a.e.now a.reserved) (lent-part a.head.now a.b (a.b + 16384)))
