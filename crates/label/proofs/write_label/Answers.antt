-- `label::write_label` meets its contract: one law for each way out. Assumes nothing.
use Rattle.std.proofs.Common.{refl, sym, ap, ◌∙◌}
use Rattle.std.specs.Prelude.{not}
use borrow.Author.Tests.{not-true, not-false}
use Rattle.units.proofs.Results.{card-handed}
use Rattle.label.proofs.Ways.{handed-as, write-refused, write-36, write-never, write-stored}
use Rattle.label.proofs.write_label.Goals as goal

-- 1, the card check's, 18, 23
pub returns-in_err-payload_place : goal.returns-in_err-payload_place
returns-in_err-payload_place c =
    let a = c.args in
    handed-as (card-handed _ _ c.from_residual.ensures.1) (write-refused a.b a.img.now a.slot.0 a.label c.in_err-payload_place.ensures)

-- 36: the slot is used, the date is none
pub returns-then-not-good_date : goal.returns-then-not-good_date
returns-then-not-good_date c =
    let a = c.args in
    write-36 a.b a.img.now a.slot.0 a.label c.in_ok-payload_place.ensures (sym c.good_date.ensures ∙ not-true _ (ap not c.if-not-good_date.true))

-- what was placed is stored
pub returns-in_err-write_payload : goal.returns-in_err-write_payload
returns-in_err-write_payload c =
    let a = c.args in
    absurd (write-never a.b a.img.now a.slot.0 a.label c.in_ok-payload_place.ensures c.label_bytes-bytes.ensures c.in_err-write_payload.ensures refl)

pub returns : goal.returns
returns c =
    let a = c.args in
    write-stored a.b a.img.now a.slot.0 a.label c.in_ok-payload_place.ensures c.label_bytes-bytes.ensures c.in_ok-write_payload.ensures
    (sym c.good_date.ensures ∙ not-false _ (ap not c.if-not-good_date.false))
