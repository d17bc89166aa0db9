-- `rows::inner::Plan::answer` meets its contract. Assumes nothing.
use mathlib.Core.Path.{ap}
use Rattle.units.specs.Meanings.{card_means}
use Rattle.rows.specs.Plans.{plainly}
use Rattle.rows.proofs.Laws.{counts-present, counts-refused}
use Rattle.rows.proofs.inner.Plan.answer.Goals as goal

pub returns-in-Ok : goal.returns-in-Ok
returns-in-Ok c = ap plainly (counts-present _ (ap card_means c.in-Ok.is))

pub returns-in-Err : goal.returns-in-Err
returns-in-Err c = ap plainly (counts-refused _ (ap card_means c.in-Err.is))
