-- `windows_staged::inner::repair_of` meets its contract. Assumes nothing.
use mathlib.Core.Path.{◌≡◌, refl, ap, ◌∙◌}
use mathlib.Core.List.{List}
use Prim.Native.Nat.{ℕ, ◌+◌}
use native.Mathlib.Omega.{arith}
use Rattle.units.proofs.Lists.{length-lent, lent-part}
use Rattle.tables.specs.Lens.{Front, copy_in, copy_at}
use Rattle.tables.specs.Check.{table_check}
use Rattle.tables.proofs.Room.{Room}
use Rattle.tables.proofs.Good.{room-ok}
use Rattle.windows.specs.Windows.{window_tables}
use Rattle.windows_staged.proofs.inner.repair_of.Goals as goal

pub repair_by-requires : goal.repair_by-requires
repair_by-requires c = record { len_value = (c.requires.len_value.0, c.requires.len_value.2); copy_value = rw c.if-back.true at c.requires.tail_value }

pub returns-then-back : goal.returns-then-back
returns-then-back c =
    let a = c.args in
    let t = window_tables a.b a.head.now a.tail.now in
    rw c.if-back.true (c.repair_by.ensures t refl)

pub overflow_add-size : goal.overflow_add-size
overflow_add-size c =
    let room : Room c.args.b c.args.len = room-ok _ _ c.requires.len_value.0 in
    omega (arith, room.most)

pub overflow_add-size-2 : goal.overflow_add-size-2
overflow_add-size-2 c =
    let room : Room c.args.b c.args.len = room-ok _ _ c.requires.len_value.0 in
    omega (arith, room.most)

pub slice_bounds-repair_by-end : goal.slice_bounds-repair_by-end
slice_bounds-repair_by-end c = omega (arith, c.requires.len_value.1)

pub repair_by-requires-2 : goal.repair_by-requires-2
repair_by-requires-2 c =
    let a = c.args in
    let q : (table_check a.b a.len Front (copy_at Front (window_tables a.b a.head.now a.tail.now))).number ≡ 0 = rw c.if-back.false at c.requires.tail_value in record { len_value = (c.requires.len_value.0, length-lent a.head.now a.b (a.b + 16384) (omega (arith, c.requires.len_value.1))); copy_value = ap (λ (l : List ℕ). (table_check a.b a.len Front (copy_in a.b Front l)).number) (lent-part a.head.now a.b (a.b + 16384)) ∙ q }

pub returns : goal.returns
returns c =
    let a = c.args in
    let t = window_tables a.b a.head.now a.tail.now in
    rw c.if-back.false (c.repair_by-2.ensures t (ap (copy_in a.b Front) (lent-part a.head.now a.b (a.b + 16384))))
