-- `windows_label::read_label` meets its contract: what the slot's place refuses, or what the bytes that are handed in tell. Assumes nothing.
use mathlib.Core.Path.{◌∙◌}
use Rattle.units.proofs.Results.{card-handed}
use Rattle.windows_label.proofs.Ways.{handed-refused, handed-read}
use Rattle.windows_label.proofs.read_label.Goals as goal

pub returns-in_err-payload_place : goal.returns-in_err-payload_place
returns-in_err-payload_place c =
    let a = c.args in
    card-handed _ _ c.from_residual.ensures.1 ∙ handed-refused a.b a.blocks a.head.now a.tail.now a.slot.0 a.bytes.now c.in_err-payload_place.ensures

pub returns : goal.returns
returns c = let a = c.args in handed-read a.b a.blocks a.head.now a.tail.now a.slot.0 a.bytes.now c.in_ok-payload_place.ensures c.label_in.ensures
