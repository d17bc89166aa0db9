-- `uefi::inner::plan_read` meets its contract. Assumes nothing.
use mathlib.Core.Path.{ap}
use Rattle.units.specs.Meanings.{means}
use Rattle.uefi.proofs.Planned.{read_none, read_some}
use Rattle.uefi.proofs.inner.plan_read.Goals as goal

pub returns-in-Err : goal.returns-in-Err
returns-in-Err c = read_none _ _ (ap means c.in-Err.is) c.refused_plainly.ensures

pub returns-in-Ok : goal.returns-in-Ok
returns-in-Ok c = read_some _ _ (ap means c.in-Ok.is) c.plan_with.ensures
