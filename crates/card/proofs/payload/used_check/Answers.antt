-- `card::payload::used_check` meets its contract: one law for each way out. Assumes nothing.
use mathlib.Core.Path.{◌≡◌, sym, ap, ◌∙◌}
use mathlib.Core.Bool.{false, not}
use Prim.Native.Nat.{◌+◌, ◌-◌}
use native.Mathlib.Omega.{arith}
use lib.ListN.{length}
use Rattle.units.proofs.Lists.{length-lent}
use Rattle.units.proofs.Chains.{number-of}
use Rattle.tables.specs.Lens.{Copy, tables}
use Rattle.tables.specs.Entries.{entry, used}
use Rattle.tables.specs.Check.{check, bad_slot}
use Rattle.tables.proofs.Room.{Room}
use Rattle.tables.proofs.Good.{room-ok, check-good}
use Rattle.checking.proofs.CheckWays.{slot-good}
use Rattle.card.specs.Calls.{slot_entry}
use Rattle.card.proofs.CopyLaws.{lent-front, lent_fits}
use Rattle.card.proofs.PayWays.{used-checked, used-not, used-fine}
use Rattle.card.proofs.payload.used_check.Goals as goal

pub returns-then-found-ne0 : goal.returns-then-found-ne0
returns-then-found-ne0 c = used-checked _ _ _ _ c.slot_check-found.ensures c.if-found-ne0.true

pub overflow_add-size : goal.overflow_add-size
overflow_add-size c =
    let tested : let a = c.args in ((check a.b (length a.img.now) (tables a.b a.img.now)).number ≡ 0) × (bad_slot a.slot.0 ≡ false) = let a = c.args in slot-good a.b (length a.img.now) (tables a.b a.img.now) a.slot.0 (sym (number-of c.slot_check-found.ensures) ∙ c.if-found-ne0.false) in
    let room : let a = c.args in Room a.b (length a.img.now) = let a = c.args in room-ok _ _ (check-good a.b (length a.img.now) (tables a.b a.img.now) (tested).0).room in
    omega (arith, room.most)

pub overflow_add-size-2 : goal.overflow_add-size-2
overflow_add-size-2 c =
    let tested : let a = c.args in ((check a.b (length a.img.now) (tables a.b a.img.now)).number ≡ 0) × (bad_slot a.slot.0 ≡ false) = let a = c.args in slot-good a.b (length a.img.now) (tables a.b a.img.now) a.slot.0 (sym (number-of c.slot_check-found.ensures) ∙ c.if-found-ne0.false) in
    let room : let a = c.args in Room a.b (length a.img.now) = let a = c.args in room-ok _ _ (check-good a.b (length a.img.now) (tables a.b a.img.now) (tested).0).room in
    omega (arith, room.most)

pub slice_bounds-slot_unused-end : goal.slice_bounds-slot_unused-end
slice_bounds-slot_unused-end c =
    let tested : let a = c.args in ((check a.b (length a.img.now) (tables a.b a.img.now)).number ≡ 0) × (bad_slot a.slot.0 ≡ false) = let a = c.args in slot-good a.b (length a.img.now) (tables a.b a.img.now) a.slot.0 (sym (number-of c.slot_check-found.ensures) ∙ c.if-found-ne0.false) in
    let room : let a = c.args in Room a.b (length a.img.now) = let a = c.args in room-ok _ _ (check-good a.b (length a.img.now) (tables a.b a.img.now) (tested).0).room in
    lent_fits _ _ room

pub slot_unused-requires : goal.slot_unused-requires
slot_unused-requires c =
    let tested : let a = c.args in ((check a.b (length a.img.now) (tables a.b a.img.now)).number ≡ 0) × (bad_slot a.slot.0 ≡ false) = let a = c.args in slot-good a.b (length a.img.now) (tables a.b a.img.now) a.slot.0 (sym (number-of c.slot_check-found.ensures) ∙ c.if-found-ne0.false) in
    let room : let a = c.args in Room a.b (length a.img.now) = let a = c.args in room-ok _ _ (check-good a.b (length a.img.now) (tables a.b a.img.now) (tested).0).room in
    let a = c.args in
    let r = room in
    (r.most, tested.1, length-lent a.img.now a.b (a.b + 16384) (lent_fits _ _ r))

pub returns-then-slot_unused : goal.returns-then-slot_unused
returns-then-slot_unused c =
    let tested : let a = c.args in ((check a.b (length a.img.now) (tables a.b a.img.now)).number ≡ 0) × (bad_slot a.slot.0 ≡ false) = let a = c.args in slot-good a.b (length a.img.now) (tables a.b a.img.now) a.slot.0 (sym (number-of c.slot_check-found.ensures) ∙ c.if-found-ne0.false) in
    let room : let a = c.args in Room a.b (length a.img.now) = let a = c.args in room-ok _ _ (check-good a.b (length a.img.now) (tables a.b a.img.now) (tested).0).room in
    let unused : let a = c.args in c.slot_unused.result ≡ not (used (slot_entry (tables a.b a.img.now) a.slot.0)) = let a = c.args in
    c.slot_unused.ensures ∙ ap (λ (x : Copy). not (used (entry x.array (a.slot.0 - 1)))) (lent-front a.b a.img.now (room)) in
    let a = c.args in used-not a.b (length a.img.now) (tables a.b a.img.now) a.slot.0 c.slot_check-found.ensures c.if-found-ne0.false unused c.if-slot_unused.true

pub returns : goal.returns
returns c =
    let tested : let a = c.args in ((check a.b (length a.img.now) (tables a.b a.img.now)).number ≡ 0) × (bad_slot a.slot.0 ≡ false) = let a = c.args in slot-good a.b (length a.img.now) (tables a.b a.img.now) a.slot.0 (sym (number-of c.slot_check-found.ensures) ∙ c.if-found-ne0.false) in
    let room : let a = c.args in Room a.b (length a.img.now) = let a = c.args in room-ok _ _ (check-good a.b (length a.img.now) (tables a.b a.img.now) (tested).0).room in
    let unused : let a = c.args in c.slot_unused.result ≡ not (used (slot_entry (tables a.b a.img.now) a.slot.0)) = let a = c.args in
    c.slot_unused.ensures ∙ ap (λ (x : Copy). not (used (entry x.array (a.slot.0 - 1)))) (lent-front a.b a.img.now (room)) in
    let a = c.args in used-fine a.b (length a.img.now) (tables a.b a.img.now) a.slot.0 c.slot_check-found.ensures c.if-found-ne0.false unused c.if-slot_unused.false
