-- `card::changing::change_at` meets its contract. Assumes nothing.
use mathlib.Core.Path.{◌≡◌, ap, ◌∙◌}
use mathlib.Core.List.{List}
use Prim.Native.Nat.{ℕ, ◌+◌, ◌-◌}
use native.Mathlib.Omega.{arith}
use lib.ListN.{length}
use lib.Seq.{sets, length-sets}
use Rattle.units.proofs.Lists.{lent-part, lent_back, length-lent}
use Rattle.tables.proofs.HeaderLaws.{block-long}
use Rattle.tables.specs.Headers.{head_block}
use Rattle.tables.specs.Lens.{side_of}
use Rattle.tables.proofs.Good.{slot_ok}
use Rattle.tables.proofs.Good.{room-ok}
use Rattle.tables.specs.Lens.{copy_in, copy_bytes}
use Rattle.card.specs.Calls.{changed_copy}
use Rattle.card.proofs.CopyLaws.{length-changed}
use Rattle.card.proofs.changing.change_at.Goals as goal

pub overflow_add-size : goal.overflow_add-size
overflow_add-size c = omega (arith, (room-ok _ _ c.requires.len_value.0).most)

pub overflow_add-at : goal.overflow_add-at
overflow_add-at c = omega (arith, (room-ok _ _ c.requires.len_value.0).most)

pub slice_bounds-change_copy-end : goal.slice_bounds-change_copy-end
slice_bounds-change_copy-end c = omega (arith, c.requires.len_value.1)

pub change_copy-requires : goal.change_copy-requires
change_copy-requires c =
    let a = c.args in
    record { len_value = (c.requires.len_value.0, length-lent a.s.now a.place.0 (a.b + 16384) c.requires.len_value.1); slot_value = c.requires.slot_value }

pub shape_of-s : goal.shape_of-s
shape_of-s c =
    let as_long : length c.change_copy.new.copy ≡ c.args.b + 16384 = let a = c.args in
    let r = room-ok _ _ c.requires.len_value.0 in
    ap length c.change_copy.ensures
    ∙ length-changed a.b (side_of a.back) _ (head_block a.b a.len (side_of a.back) a.guid a.parts) a.e.now (a.slot.0 - 1) (length-lent a.s.now a.place.0 (a.b + 16384) c.requires.len_value.1)
    (block-long a.b a.len (side_of a.back) a.guid a.parts (omega (arith, r.least))) c.requires.slot_value.1 (slot_ok _ c.requires.slot_value.0).1 in
    let a = c.args in
    ap length (lent_back a.s.now c.change_copy.new.copy a.place.0 (a.b + 16384) c.requires.len_value.1 as_long) ∙ length-sets a.s.now a.place.0 c.change_copy.new.copy

pub returns : goal.returns
returns c =
    let as_long : length c.change_copy.new.copy ≡ c.args.b + 16384 = let a = c.args in
    let r = room-ok _ _ c.requires.len_value.0 in
    ap length c.change_copy.ensures
    ∙ length-changed a.b (side_of a.back) _ (head_block a.b a.len (side_of a.back) a.guid a.parts) a.e.now (a.slot.0 - 1) (length-lent a.s.now a.place.0 (a.b + 16384) c.requires.len_value.1)
    (block-long a.b a.len (side_of a.back) a.guid a.parts (omega (arith, r.least))) c.requires.slot_value.1 (slot_ok _ c.requires.slot_value.0).1 in
    let a = c.args in
    lent_back a.s.now c.change_copy.new.copy a.place.0 (a.b + 16384) c.requires.len_value.1 as_long
    ∙ ap (λ (y : List ℕ). sets a.s.now a.place.0 y)
    (c.change_copy.ensures
    ∙ ap (λ (z : List ℕ). copy_bytes (side_of a.back) (changed_copy (copy_in a.b (side_of a.back) z) (a.slot.0 - 1) a.e.now (head_block a.b a.len (side_of a.back) a.guid a.parts)))
    (lent-part a.s.now a.place.0 (a.b + 16384)))
