-- `listing::inner::plan_of` meets its contract. Assumes nothing.
use mathlib.Core.Path.{sym, ap, ◌∙◌}
use Rattle.units.specs.Meanings.{card_means}
use Rattle.tables.proofs.Good.{room-ok}
use Rattle.listing.proofs.Ways.{check-room, array-inside}
use Rattle.listing.proofs.LentRow.{plan-refused, plan-listed}
use Rattle.listing.proofs.inner.plan_of.Goals as goal

pub front_array-requires : goal.front_array-requires
front_array-requires c = let a = c.args in (room-ok _ _ (check-room a.b a.img.now (sym c.check.ensures ∙ ap card_means c.in-Ok.is))).most

pub listing-requires : goal.listing-requires
listing-requires c =
    let a = c.args in
    array-inside a.b a.img.now (check-room a.b a.img.now (sym c.check.ensures ∙ ap card_means c.in-Ok.is)) c.front_array.ensures

pub returns-in-Err : goal.returns-in-Err
returns-in-Err c = let a = c.args in plan-refused a.b a.img.now (sym c.check.ensures ∙ ap card_means c.in-Err.is) c.refused.ensures

pub returns-in-Ok : goal.returns-in-Ok
returns-in-Ok c =
    let a = c.args in
    plan-listed a.b a.img.now (sym c.check.ensures ∙ ap card_means c.in-Ok.is) c.front_array.ensures c.listing.ensures
