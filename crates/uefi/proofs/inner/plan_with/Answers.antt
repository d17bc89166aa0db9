-- `uefi::inner::plan_with` meets its contract. Assumes nothing.
use mathlib.Core.Path.{sym, ap, ◌∙◌}
use Rattle.units.specs.Meanings.{means}
use Rattle.uefi.proofs.ArrayWays.{array_tells}
use Rattle.uefi.proofs.Planned.{array-refused, array-listed}
use Rattle.uefi.proofs.inner.plan_with.Goals as goal

pub listing_by_type-requires : goal.listing_by_type-requires
listing_by_type-requires c =
    let found = c in
    let a = array_tells _ _ _ _ (sym found.array_place.ensures ∙ ap means found.in-Ok.is) in
    (a.least, a.within)

pub returns-in-Err : goal.returns-in-Err
returns-in-Err c =
    let found = c in
    array-refused _ _ _ (sym found.array_place.ensures ∙ ap means found.in-Err.is) c.refused_plainly.ensures

pub returns-in-Ok : goal.returns-in-Ok
returns-in-Ok c =
    let found = c in
    array-listed _ _ _ (sym found.array_place.ensures ∙ ap means found.in-Ok.is) c.listing_by_type.ensures
