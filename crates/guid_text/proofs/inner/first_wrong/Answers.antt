-- `guid_text::inner::first_wrong` meets its contract. Assumes nothing.
use mathlib.Core.Path.{refl, sym, ◌∙◌}
use native.Mathlib.Omega.{arith}
use borrow.Author.Tests.{not-true, not-false}
use Rattle.guid_text.proofs.Laws.{goes_on, stops-here, all_right}
use Rattle.std.proofs.Common.{ap}
use Rattle.std.specs.Prelude.{not}
use Rattle.guid_text.proofs.inner.first_wrong.Goals as goal

pub loop-i-init : goal.loop-i-init
loop-i-init c = (omega arith, refl)

pub right_at-requires : goal.right_at-requires
right_at-requires c = tt

pub returns-then-not-right_at : goal.returns-then-not-right_at
returns-then-not-right_at c = (sym (stops-here _ _ (omega arith) (sym c.right_at.ensures ∙ not-true _ (ap not c.if-not-right_at.true))) ∙ c.loop-i.invariant.1, omega arith)

pub loop-i-preserved : goal.loop-i-preserved
loop-i-preserved c = (omega arith, goes_on _ _ (omega arith) (sym c.right_at.ensures ∙ not-false _ (ap not c.if-not-right_at.false)) ∙ c.loop-i.invariant.1)

pub returns : goal.returns
returns c = (sym (all_right _ _ (omega arith)) ∙ c.loop-i.invariant.1, omega arith)
