-- `partition::inner::partition_place` meets its contract: the array's place, then the slot's in it. Assumes nothing.
use mathlib.Core.Path.{sym, ap, ◌∙◌}
use native.Mathlib.Omega.{arith}
use Rattle.units.proofs.Results.{handed}
use Rattle.units.specs.Meanings.{means}
use Rattle.partition.proofs.Ways.{slot-unfound, slot-refused, slot-found, slot-inside}
use Rattle.partition.proofs.inner.partition_place.Goals as goal

pub overflow_add-result : goal.overflow_add-result
overflow_add-result c =
    omega
    (arith, slot-inside _ _ _ _ (sym c.in_ok-at.ensures) (sym c.in_ok-k.ensures))

pub returns-in_err-at : goal.returns-in_err-at
returns-in_err-at c = handed _ _ c.from_residual.ensures.1 ∙ slot-unfound _ _ _ _ (sym c.in_err-at.ensures)

pub returns-in_err-k : goal.returns-in_err-k
returns-in_err-k c =
    handed _ _ c.from_residual-in_err-k.ensures.1 ∙ slot-refused _ _ _ _ (sym c.in_ok-at.ensures) (sym c.in_err-k.ensures)

pub returns : goal.returns
returns c =
    slot-found _ _ _ _ (sym c.in_ok-at.ensures) (sym c.in_ok-k.ensures)
