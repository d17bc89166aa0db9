-- `label::inner::agree` meets its contract: one law for each way out. Assumes nothing.
use mathlib.Core.Path.{sym, ◌∙◌}
use borrow.Author.Tests.{not-true, not-false}
use Rattle.label.proofs.JudgeWays.{agree-first, agree-37, agree_same}
use Rattle.std.proofs.Common.{ap}
use Rattle.std.specs.Prelude.{not}
use Rattle.label.proofs.inner.agree.Goals as goal

pub returns-then-not-same_dated : goal.returns-then-not-same_dated
returns-then-not-same_dated c = agree-37 _ _ c.in-Some.is (sym c.same_dated.ensures ∙ not-true _ (ap not c.if-not-same_dated.true))

pub returns-in-None : goal.returns-in-None
returns-in-None c = agree-first _ _ c.in-None.is

pub returns-else-not-same_dated : goal.returns-else-not-same_dated
returns-else-not-same_dated c = agree_same _ _ c.in-Some.is (sym c.same_dated.ensures ∙ not-false _ (ap not c.if-not-same_dated.false))
