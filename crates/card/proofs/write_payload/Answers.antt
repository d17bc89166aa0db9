-- `card::write_payload` meets its contract. Assumes nothing.
use mathlib.Core.Path.{sym, subst}
use lib.ListN.{length}
use Prim.Native.Nat.{ℕ}
use Rattle.units.specs.Answer.{Answer, Ends}
use Rattle.units.proofs.Results.{card-handed}
use Rattle.card.specs.Calls.{payload_at}
use Rattle.card.proofs.PayWays.{pay-refuses, pay-inside, pay-accepts}
use Rattle.card.proofs.write_payload.Goals as goal

pub put_bytes-requires : goal.put_bytes-requires
put_bytes-requires c =
    let a = c.args in
    pay-inside a.b a.img.now a.slot.0 a.place.0 a.bytes.now (c.in_ok-at.ensures)

pub returns-in_err-at : goal.returns-in_err-at
returns-in_err-at c =
    let a = c.args in
    subst (λ (r : Answer ℕ). Ends (payload_at a.b (length a.img.now) a.img.now a.slot.0 a.place.0 a.bytes.now) r a.img.now) (sym (card-handed _ _ c.from_residual.ensures.1))
    (pay-refuses a.b a.img.now a.slot.0 a.place.0 a.bytes.now c.in_err-at.ensures)

pub returns : goal.returns
returns c =
    let a = c.args in
    pay-accepts a.b a.img.now a.slot.0 a.place.0 a.bytes.now (c.in_ok-at.ensures) c.put_bytes.ensures
