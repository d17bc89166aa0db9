-- `partition::inner::find_array` meets its contract: the header's own sum of the array has the refusals that are left. Assumes nothing.
use mathlib.Core.Path.{sym, ap, ◌∙◌}
use Rattle.units.proofs.Results.{handed}
use Rattle.units.specs.Meanings.{means}
use Rattle.partition.proofs.Ways.{array-refused, array-each, array-unsummed, array-other, array-good}
use Rattle.partition.proofs.inner.find_array.Goals as goal

pub returns-then-h-ne128 : goal.returns-then-h-ne128
returns-then-h-ne128 c = array-each _ _ _ (sym c.in_ok-at.ensures) c.if-h-ne128.true

pub returns-then-sum-h : goal.returns-then-sum-h
returns-then-sum-h c =
    array-other _ _ _ (sym c.in_ok-at.ensures) c.if-h-ne128.false (sym c.in_ok-sum.ensures) c.if-sum-h.true

pub returns-in_err-at : goal.returns-in_err-at
returns-in_err-at c = handed _ _ c.from_residual.ensures.1 ∙ array-refused _ _ _ (sym c.in_err-at.ensures)

pub returns-in_err-sum : goal.returns-in_err-sum
returns-in_err-sum c =
    handed _ _ c.from_residual-in_err-sum.ensures.1 ∙ array-unsummed _ _ _ (sym c.in_ok-at.ensures) c.if-h-ne128.false (sym c.in_err-sum.ensures)

pub returns : goal.returns
returns c =
    array-good _ _ _ (sym c.in_ok-at.ensures) c.if-h-ne128.false (sym c.in_ok-sum.ensures) c.if-sum-h.false
