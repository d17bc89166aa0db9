-- `uefi::inner::slot_place` meets its contract: the array's place, then the slot's in it. Assumes nothing.
use mathlib.Core.Path.{sym, ap, ◌∙◌}
use native.Mathlib.Omega.{arith}
use Rattle.units.proofs.Results.{handed}
use Rattle.units.specs.Meanings.{means}
use Rattle.uefi.proofs.ArrayWays.{slot-unfound, slot-refused, slot-found, slot-inside}
use Rattle.uefi.proofs.inner.slot_place.Goals as goal

pub entry_place-requires : goal.entry_place-requires
entry_place-requires c =
    let slot = c in
    let found = slot in
    omega
    (arith, slot-inside _ _ _ _ (sym found.in_ok-at.ensures) (sym slot.in_ok-k.ensures))

pub returns-in_err-at : goal.returns-in_err-at
returns-in_err-at c =
    let found = c in
    handed _ _ c.from_residual.ensures.1 ∙ slot-unfound _ _ _ _ (sym found.in_err-at.ensures)

pub returns-in_err-k : goal.returns-in_err-k
returns-in_err-k c =
    let slot = c in
    let found = slot in
    handed _ _ c.from_residual-in_err-k.ensures.1 ∙ slot-refused _ _ _ _ (sym found.in_ok-at.ensures) (sym slot.in_err-k.ensures)

pub returns : goal.returns
returns c =
    let slot = c in
    let found = slot in
    slot-found _ _ _ _ (sym found.in_ok-at.ensures) (sym slot.in_ok-k.ensures) c.entry_place.ensures
