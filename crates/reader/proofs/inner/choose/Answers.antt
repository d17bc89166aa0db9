-- `reader::inner::choose` meets its contract: the room first, and then the image's two copies. Assumes nothing.
use mathlib.Core.Path.{sym, ap, ◌∙◌}
use Prim.Native.Nat.{◌+◌}
use native.Mathlib.Omega.{arith}
use lib.ListN.{length}
use Rattle.units.proofs.Lists.{length-lent}
use Rattle.tables.specs.Lens.{Tables}
use Rattle.tables.proofs.Good.{room-ok}
use Rattle.tables.proofs.Copies.{lent-tables}
use Rattle.reader.specs.Reader.{chosen_number, takes_back}
use Rattle.reader.proofs.Ways.{no_room, with-room}
use Rattle.reader.proofs.inner.choose.Goals as goal

pub returns-then-room-ne0 : goal.returns-then-room-ne0
returns-then-room-ne0 c = (no_room _ _ _ c.room_check-room.ensures c.if-room-ne0.true, λ z. absurd (c.if-room-ne0.true z))

pub back_place-at-requires : goal.back_place-at-requires
back_place-at-requires c = (sym c.room_check-room.ensures ∙ c.if-room-ne0.false)

pub overflow_add-size : goal.overflow_add-size
overflow_add-size c = omega (arith, (room-ok _ _ (sym c.room_check-room.ensures ∙ c.if-room-ne0.false)).most)

pub slice_bounds-choose_copy-end : goal.slice_bounds-choose_copy-end
slice_bounds-choose_copy-end c = let r = room-ok _ _ (sym c.room_check-room.ensures ∙ c.if-room-ne0.false) in omega (arith, r.low, r.seam, r.top)

pub slice_bounds-choose_copy-end-2 : goal.slice_bounds-choose_copy-end-2
slice_bounds-choose_copy-end-2 c = omega (arith, c.back_place-at.ensures.1)

pub choose_copy-requires : goal.choose_copy-requires
choose_copy-requires c =
    let a = c.args in
    let r = room-ok _ _ (sym c.room_check-room.ensures ∙ c.if-room-ne0.false) in
    ((sym c.room_check-room.ensures ∙ c.if-room-ne0.false), length-lent a.img.now a.b (a.b + 16384) (omega (arith, r.low, r.seam, r.top)), length-lent a.img.now c.back_place-at.result.0 (a.b + 16384) c.back_place-at.ensures.1)

pub returns : goal.returns
returns c =
    let a = c.args in
    let t = lent-tables a.b (length a.img.now) a.img.now (room-ok _ _ (sym c.room_check-room.ensures ∙ c.if-room-ne0.false)) c.back_place-at.ensures.0 in (
      with-room _ _ _ (sym c.room_check-room.ensures ∙ c.if-room-ne0.false) (c.choose_copy.ensures.number_value ∙ ap (λ (t : Tables). chosen_number a.b (length a.img.now) t) t),
      λ z. c.choose_copy.ensures.back_value ∙ ap (λ (t : Tables). takes_back a.b (length a.img.now) t) t,
    )
