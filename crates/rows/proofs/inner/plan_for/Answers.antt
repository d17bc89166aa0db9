-- `rows::inner::plan_for` meets its contract. Assumes nothing.
use mathlib.Core.Path.{sym, ap, ◌∙◌}
use Rattle.units.specs.Meanings.{means}
use Rattle.partition.proofs.Ways.{array_tells}
use Rattle.rows.proofs.Laws.{found-refused, found-listed}
use Rattle.rows.proofs.inner.plan_for.Goals as goal

pub listing-requires : goal.listing-requires
listing-requires c = (array_tells _ _ _ _ (sym c.find_array.ensures ∙ ap means c.in-Ok.is)).within

pub returns-in-Err : goal.returns-in-Err
returns-in-Err c = found-refused _ _ _ (sym c.find_array.ensures ∙ ap means c.in-Err.is) c.refused_plainly.ensures

pub returns-in-Ok : goal.returns-in-Ok
returns-in-Ok c = found-listed _ _ _ (sym c.find_array.ensures ∙ ap means c.in-Ok.is) c.listing.ensures
