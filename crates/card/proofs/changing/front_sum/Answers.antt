-- `card::changing::front_sum` meets its contract. Assumes nothing.
use mathlib.Core.Path.{ap, ◌∙◌}
use mathlib.Core.List.{List}
use Prim.Native.Nat.{ℕ, ◌+◌, ◌-◌}
use native.Mathlib.Omega.{arith}
use Rattle.units.proofs.Lists.{lent-part, length-lent}
use Rattle.crc32.specs.Crc.{crc}
use Rattle.tables.specs.Entries.{set_entry}
use Rattle.tables.proofs.Good.{room-ok}
use Rattle.tables.specs.Lens.{copy_in, Front}
use Rattle.card.proofs.changing.front_sum.Goals as goal

pub overflow_add-size : goal.overflow_add-size
overflow_add-size c = omega (arith, (room-ok _ _ c.requires.len_value.0).most)

pub overflow_add-size-2 : goal.overflow_add-size-2
overflow_add-size-2 c = omega (arith, (room-ok _ _ c.requires.len_value.0).most)

pub slice_bounds-sum_with-end : goal.slice_bounds-sum_with-end
slice_bounds-sum_with-end c = omega (arith, c.requires.len_value.1)

pub sum_with-requires : goal.sum_with-requires
sum_with-requires c =
    let a = c.args in
    record { len_value = (c.requires.len_value.0, length-lent a.s.now a.b (a.b + 16384) c.requires.len_value.1); copy_value = rw (lent-part a.s.now a.b (a.b + 16384)) c.requires.b_value; slot_value = c.requires.slot_value }

pub returns : goal.returns
returns c =
    let a = c.args in
    c.sum_with.ensures ∙ ap (λ (y : List ℕ). crc (set_entry (copy_in a.b Front y).array (a.slot.0 - 1) a.e.now)) (lent-part a.s.now a.b (a.b + 16384))
