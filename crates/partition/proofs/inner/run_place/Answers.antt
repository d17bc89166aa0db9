-- `partition::inner::run_place` meets its contract. Assumes nothing.
use Rattle.std.proofs.Common.{sym, ◌∙◌}
use Rattle.units.proofs.Results.{handed}
use Rattle.partition.proofs.Ways.{run-far, run_long, run_at}
use Rattle.partition.proofs.inner.run_place.Goals as goal

pub returns-in_err-at : goal.returns-in_err-at
returns-in_err-at c = handed _ _ c.from_residual.ensures.1 ∙ run-far _ _ _ (sym c.in_err-at.ensures)

pub returns-in_err-_end : goal.returns-in_err-_end
returns-in_err-_end c = handed _ _ c.from_residual-in_err-_end.ensures.1 ∙ run_long _ _ _ (sym c.in_ok-at.ensures) (sym c.in_err-_end.ensures)

pub returns : goal.returns
returns c = run_at _ _ _ (sym c.in_ok-at.ensures) (sym c.in_ok-_end.ensures)
