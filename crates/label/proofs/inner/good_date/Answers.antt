-- `label::inner::good_date` meets its contract: the month is tested first. Assumes nothing.
use mathlib.Core.Path.{sym, ◌∙◌}
use borrow.Author.Tests.{not-true, not-false}
use Rattle.std.proofs.Common.{ap}
use Rattle.std.specs.Prelude.{not}
use Rattle.label.proofs.inner.good_date.Goals as goal

pub returns-then-not-between : goal.returns-then-not-between
returns-then-not-between c = rw (sym c.between.ensures ∙ not-true _ (ap not c.if-not-between.true))

pub returns : goal.returns
returns c = rw (sym c.between.ensures ∙ not-false _ (ap not c.if-not-between.false)) c.between-2.ensures
