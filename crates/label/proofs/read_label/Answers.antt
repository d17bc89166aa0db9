-- `label::read_label` meets its contract: what the payload read refuses, or what its 13 bytes tell. Assumes nothing.
use Rattle.std.proofs.Common.{refl, ap, ◌∙◌}
use Rattle.units.proofs.Results.{card-handed}
use Rattle.label.specs.Labels.{label_of}
use Rattle.label.proofs.Ways.{read-refused, read_found, read-labelled}
use Rattle.label.proofs.read_label.Goals as goal

pub returns-in_err-read_payload : goal.returns-in_err-read_payload
returns-in_err-read_payload c =
    let a = c.args in
    card-handed _ _ c.from_residual.ensures.1 ∙ read-refused a.b a.img.now a.slot.0 _ c.in_err-read_payload.ensures refl refl

pub returns : goal.returns
returns c =
    let a = c.args in
    let f = read_found a.b a.img.now a.slot.0 _ c.in_ok-read_payload.ensures refl refl in
    read-labelled a.b a.img.now a.slot.0 f.0 (c.label_of.ensures ∙ ap label_of f.1)
