-- `card::read_payload` meets its contract. Assumes nothing.
use mathlib.Core.Path.{sym, subst}
use native.Mathlib.Omega.{arith}
use lib.ListN.{length}
use Prim.Native.Nat.{ℕ}
use Rattle.units.specs.Answer.{Answer, Ends}
use Rattle.units.proofs.Results.{card-handed}
use Rattle.card.specs.Calls.{read_at}
use Rattle.card.proofs.PayWays.{read-refuses, pay-inside, read-accepts}
use Rattle.card.proofs.read_payload.Goals as goal

pub overflow_add-from : goal.overflow_add-from
overflow_add-from c =
    let a = c.args in
    let q = pay-inside a.b a.img.now a.slot.0 a.place.0 a.out.now (c.in_ok-at.ensures) in
    omega arith

pub slice_bounds-put_bytes-end : goal.slice_bounds-put_bytes-end
slice_bounds-put_bytes-end c =
    let a = c.args in
    pay-inside a.b a.img.now a.slot.0 a.place.0 a.out.now (c.in_ok-at.ensures)

pub returns-in_err-at : goal.returns-in_err-at
returns-in_err-at c =
    let a = c.args in
    subst (λ (r : Answer ℕ). Ends (read_at a.b (length a.img.now) a.img.now a.slot.0 a.place.0 a.out.now) r a.out.now) (sym (card-handed _ _ c.from_residual.ensures.1))
    (read-refuses a.b a.img.now a.slot.0 a.place.0 a.out.now c.in_err-at.ensures)

pub returns : goal.returns
returns c =
    let a = c.args in
    read-accepts a.b a.img.now a.slot.0 a.place.0 a.out.now (c.in_ok-at.ensures) c.put_bytes.ensures
