-- `card::changing::change` meets its contract. Assumes nothing.
use mathlib.Core.Path.{◌≡◌, ap, ◌∙◌}
use native.Mathlib.Omega.{arith}
use lib.ListN.{length}
use lib.Seq.{length-sets}
use Rattle.tables.specs.Lens.{tables}
use Rattle.tables.specs.Check.{room_check}
use Rattle.tables.proofs.Good.{room-ok, check-good}
use Rattle.card.proofs.CopyLaws.{image-front, image-changed}
use Rattle.card.proofs.changing.change.Goals as goal

pub back_place-back-requires : goal.back_place-back-requires
back_place-back-requires c =
    let room : (room_check c.args.b (length c.args.img.now)).number ≡ 0 = (check-good c.args.b (length c.args.img.now) (tables c.args.b c.args.img.now) c.requires.img_value).room in
    room

pub front_guid-guid-requires : goal.front_guid-guid-requires
front_guid-guid-requires c =
    let room : (room_check c.args.b (length c.args.img.now)).number ≡ 0 = (check-good c.args.b (length c.args.img.now) (tables c.args.b c.args.img.now) c.requires.img_value).room in
    let r = room-ok _ _ room in
    (omega (arith, r.least), r.most, omega (arith, r.low, r.seam, r.top))

pub front_sum-parts-requires : goal.front_sum-parts-requires
front_sum-parts-requires c =
    let room : (room_check c.args.b (length c.args.img.now)).number ≡ 0 = (check-good c.args.b (length c.args.img.now) (tables c.args.b c.args.img.now) c.requires.img_value).room in
    let r = room-ok _ _ room in
    record { len_value = (room, omega (arith, r.low, r.seam, r.top)); b_value = image-front c.args.b c.args.img.now c.requires.img_value; slot_value = c.requires.slot_value }

pub change_at-requires : goal.change_at-requires
change_at-requires c =
    let room : (room_check c.args.b (length c.args.img.now)).number ≡ 0 = (check-good c.args.b (length c.args.img.now) (tables c.args.b c.args.img.now) c.requires.img_value).room in
    record { len_value = (room, omega (arith, c.back_place-back.ensures.1)); slot_value = c.requires.slot_value }

pub change_at-requires-2 : goal.change_at-requires-2
change_at-requires-2 c =
    let one-length : length c.change_at.new.s ≡ length c.args.img.now = ap length c.change_at.ensures ∙ simp length-sets in
    let room : (room_check c.args.b (length c.args.img.now)).number ≡ 0 = (check-good c.args.b (length c.args.img.now) (tables c.args.b c.args.img.now) c.requires.img_value).room in
    let r = room-ok _ _ room in
    record { len_value = (room, omega (arith, one-length, r.low, r.seam, r.top)); slot_value = c.requires.slot_value }

pub shape_of-img : goal.shape_of-img
shape_of-img c =
    let one-length : length c.change_at.new.s ≡ length c.args.img.now = ap length c.change_at.ensures ∙ simp length-sets in
    ap length c.change_at-2.ensures ∙ (simp length-sets) ∙ one-length

pub returns : goal.returns
returns c =
    let a = c.args in
    image-changed a.b a.img.now c.change_at.new.s c.change_at-2.new.s a.e.now a.slot.0 c.front_guid-guid.result c.front_sum-parts.result c.requires.img_value c.requires.slot_value.0 c.requires.slot_value.1
    c.front_guid-guid.ensures.bytes c.front_sum-parts.ensures c.back_place-back.ensures.0 c.change_at.ensures c.change_at-2.ensures
