-- `label::inner::label_of` meets its contract: one law for each way out. Assumes nothing.
use mathlib.Core.Path.{sym, ap, ◌∙◌}
use Prim.Native.Nat.{ℕ}
use borrow.Author.Tests.{not-true, ne_eqb, eq-eqb}
use lib.Dec.{eqb}
use Rattle.units.specs.Answer.{accepted}
use Rattle.label.proofs.Ways.{label-34, label-35, label-36, label-good}
use Rattle.std.specs.Prelude.{not}
use Rattle.label.proofs.inner.label_of.Goals as goal

pub returns-then-not-same_at : goal.returns-then-not-same_at
returns-then-not-same_at c = label-34 _ (sym c.same_at.ensures ∙ not-true _ (ap not c.if-not-same_at.true))

pub returns-then-get-ne1 : goal.returns-then-get-ne1
returns-then-get-ne1 c = label-35 _ (sym c.same_at.ensures ∙ c.if-not-same_at.false) (ap (λ (k : ℕ). eqb k 1) (sym c.get.ensures) ∙ ne_eqb _ 1 c.if-get-ne1.true)

pub returns-then-not-good_date : goal.returns-then-not-good_date
returns-then-not-good_date c = label-36 _ (sym c.same_at.ensures ∙ c.if-not-same_at.false) (ap (λ (k : ℕ). eqb k 1) (sym c.get.ensures) ∙ eq-eqb _ 1 c.if-get-ne1.false) (sym c.good_date.ensures ∙ not-true _ (ap not c.if-not-good_date.true))

pub returns : goal.returns
returns c = ap accepted c.label_at.ensures ∙ label-good _ (sym c.same_at.ensures ∙ c.if-not-same_at.false) (ap (λ (k : ℕ). eqb k 1) (sym c.get.ensures) ∙ eq-eqb _ 1 c.if-get-ne1.false) (sym c.good_date.ensures ∙ c.if-not-good_date.false)
