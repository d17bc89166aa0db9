-- `windows::check` meets its contract. Assumes nothing.
use mathlib.Core.Path.{ap, ◌∙◌}
use Rattle.units.specs.Meanings.{card_means}
use Rattle.tables.specs.Check.{check}
use Rattle.checking.proofs.CheckWays.{named-check}
use Rattle.windows.proofs.Ways.{verdict-asked}
use Rattle.windows.proofs.check.Goals as goal

pub returns : goal.returns
returns c =
    let a = c.args in
    ap card_means c.verdict.ensures ∙ verdict-asked a.b a.blocks a.head.now a.tail.now (check a.b) (named-check a.b) c.check_in-found.ensures
