-- `card::payload::payload_place` meets its contract: one law for each way out. Assumes nothing.
use mathlib.Core.Path.{◌≡◌, sym, ap, ◌∙◌}
use Prim.Native.Nat.{ℕ, ◌+◌, ◌*◌, ◌-◌}
use native.Mathlib.Omega.{arith}
use lib.Dec.{ltb}
use lib.ListN.{length}
use Rattle.units.specs.declared.BytePlace.{BytePlace}
use Rattle.units.specs.Answer.{Answer, accepted, refuse, pick}
use Rattle.units.proofs.Lists.{length-lent}
use Rattle.units.proofs.Chains.{number-of}
use Rattle.tables.specs.Lens.{Copy, tables}
use Rattle.tables.specs.Entries.{entry, first_of, last_of}
use Rattle.tables.proofs.Room.{Room}
use Rattle.checking.proofs.CheckWays.{slot-good}
use Rattle.card.specs.Calls.{used_check, slot_entry, payload_place}
use Rattle.card.proofs.CopyLaws.{lent-front, lent_fits}
use Rattle.card.proofs.PayWays.{used-slot, used-room, used-spanned, pay-refused, pay-placed}
use Rattle.card.proofs.payload.payload_place.Goals as goal

pub returns-then-found-ne0 : goal.returns-then-found-ne0
returns-then-found-ne0 c = let a = c.args in pay-refused a.b (length a.img.now) (tables a.b a.img.now) a.slot.0 a.place.0 a.n _ c.used_check-found.ensures c.if-found-ne0.true c.reason.ensures

pub overflow_add-size : goal.overflow_add-size
overflow_add-size c =
    let tested : let a = c.args in (used_check a.b (length a.img.now) (tables a.b a.img.now) a.slot.0).number ≡ 0 = sym (number-of c.used_check-found.ensures) ∙ c.if-found-ne0.false in
    let room : let a = c.args in Room a.b (length a.img.now) = let a = c.args in used-room a.b a.img.now a.slot.0 (tested) in
    omega (arith, room.most)

pub overflow_add-size-2 : goal.overflow_add-size-2
overflow_add-size-2 c =
    let tested : let a = c.args in (used_check a.b (length a.img.now) (tables a.b a.img.now) a.slot.0).number ≡ 0 = sym (number-of c.used_check-found.ensures) ∙ c.if-found-ne0.false in
    let room : let a = c.args in Room a.b (length a.img.now) = let a = c.args in used-room a.b a.img.now a.slot.0 (tested) in
    omega (arith, room.most)

pub slice_bounds-slot_span-end : goal.slice_bounds-slot_span-end
slice_bounds-slot_span-end c =
    let tested : let a = c.args in (used_check a.b (length a.img.now) (tables a.b a.img.now) a.slot.0).number ≡ 0 = sym (number-of c.used_check-found.ensures) ∙ c.if-found-ne0.false in
    let room : let a = c.args in Room a.b (length a.img.now) = let a = c.args in used-room a.b a.img.now a.slot.0 (tested) in
    lent_fits _ _ room

pub slot_span-span-requires : goal.slot_span-span-requires
slot_span-span-requires c =
    let tested : let a = c.args in (used_check a.b (length a.img.now) (tables a.b a.img.now) a.slot.0).number ≡ 0 = sym (number-of c.used_check-found.ensures) ∙ c.if-found-ne0.false in
    let room : let a = c.args in Room a.b (length a.img.now) = let a = c.args in used-room a.b a.img.now a.slot.0 (tested) in
    let a = c.args in
    let r = room in
    (r.most, (slot-good a.b (length a.img.now) (tables a.b a.img.now) a.slot.0 (used-slot a.b a.img.now a.slot.0 tested)).1, length-lent a.img.now a.b (a.b + 16384) (lent_fits _ _ r))

pub place_in-requires : goal.place_in-requires
place_in-requires c =
    let tested : let a = c.args in (used_check a.b (length a.img.now) (tables a.b a.img.now) a.slot.0).number ≡ 0 = sym (number-of c.used_check-found.ensures) ∙ c.if-found-ne0.false in
    let room : let a = c.args in Room a.b (length a.img.now) = let a = c.args in used-room a.b a.img.now a.slot.0 (tested) in
    let last-is : let a = c.args in c.slot_span-span.result.last.0 ≡ last_of (slot_entry (tables a.b a.img.now) a.slot.0) = let a = c.args in c.slot_span-span.ensures.1 ∙ ap (λ (x : Copy). last_of (entry x.array (a.slot.0 - 1))) (lent-front a.b a.img.now (room)) in
    let first-is : let a = c.args in c.slot_span-span.result.first.0 ≡ first_of (slot_entry (tables a.b a.img.now) a.slot.0) = let a = c.args in c.slot_span-span.ensures.0 ∙ ap (λ (x : Copy). first_of (entry x.array (a.slot.0 - 1))) (lent-front a.b a.img.now (room)) in
    let a = c.args in
    let s = used-spanned a.b a.img.now a.slot.0 tested in
    rw (first-is, last-is) (omega (arith, room.least), s.order, s.end)

pub returns : goal.returns
returns c =
    let tested : let a = c.args in (used_check a.b (length a.img.now) (tables a.b a.img.now) a.slot.0).number ≡ 0 = sym (number-of c.used_check-found.ensures) ∙ c.if-found-ne0.false in
    let room : let a = c.args in Room a.b (length a.img.now) = let a = c.args in used-room a.b a.img.now a.slot.0 (tested) in
    let last-is : let a = c.args in c.slot_span-span.result.last.0 ≡ last_of (slot_entry (tables a.b a.img.now) a.slot.0) = let a = c.args in c.slot_span-span.ensures.1 ∙ ap (λ (x : Copy). last_of (entry x.array (a.slot.0 - 1))) (lent-front a.b a.img.now (room)) in
    let first-is : let a = c.args in c.slot_span-span.result.first.0 ≡ first_of (slot_entry (tables a.b a.img.now) a.slot.0) = let a = c.args in c.slot_span-span.ensures.0 ∙ ap (λ (x : Copy). first_of (entry x.array (a.slot.0 - 1))) (lent-front a.b a.img.now (room)) in
    let a = c.args in
    pay-placed a.b (length a.img.now) (tables a.b a.img.now) a.slot.0 a.place.0 a.n (record { 0 = payload_place a.b (tables a.b a.img.now) a.slot.0 a.place.0 }) c.used_check-found.ensures c.if-found-ne0.false
    (c.place_in.ensures
    ∙ ap (λ (f : ℕ). pick {X = Answer BytePlace} (ltb ((c.slot_span-span.result.last.0 + 1 - f) * a.b) (a.place.0 + a.n)) (refuse 24) (accepted (record { 0 = f * a.b + a.place.0 }))) first-is
    ∙ ap (λ (l : ℕ). pick {X = Answer BytePlace} (ltb ((l + 1 - first_of (slot_entry (tables a.b a.img.now) a.slot.0)) * a.b) (a.place.0 + a.n)) (refuse 24) (accepted (record { 0 = payload_place a.b (tables a.b a.img.now) a.slot.0 a.place.0 }))) last-is)
