-- `checking::inner::check` meets its contract: what it finds has a name. Assumes nothing.
use mathlib.Core.Path.{ap, ◌∙◌}
use lib.ListN.{length}
use Rattle.units.specs.Meanings.{card_means, verdict_of}
use Rattle.units.proofs.Chains.{verdict-judged}
use Rattle.tables.specs.Lens.{tables}
use Rattle.checking.proofs.CheckWays.{named-check}
use Rattle.checking.proofs.inner.check.Goals as goal

pub returns : goal.returns
returns c =
    let a = c.args in
    ap card_means (c.verdict.ensures ∙ ap verdict_of c.check_with-found.ensures)
    ∙ verdict-judged _ (named-check a.b (length a.img.now) (tables a.b a.img.now))
