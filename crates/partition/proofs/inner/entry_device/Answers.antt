-- `partition::inner::entry_device` meets its contract. Assumes nothing.
use mathlib.Core.Path.{sym, ap, ◌∙◌}
use Rattle.units.proofs.Results.{handed}
use Rattle.units.specs.Meanings.{means}
use Rattle.partition.specs.Device.{entry_device}
use Rattle.partition.proofs.Ways.{sizes-tell}
use Rattle.partition.proofs.inner.entry_device.Goals as goal

pub returns-then-too_wide : goal.returns-then-too_wide
unfolding entry_device
returns-then-too_wide c = rw (sym c.in_ok-device_sizes.ensures, ← c.too_wide.ensures, c.if-too_wide.true)

pub device_run-requires : goal.device_run-requires
device_run-requires c =
    let t = sizes-tell _ _ (sym c.in_ok-device_sizes.ensures) in
    (t.good, t.filled)

pub returns-in_err-device_sizes : goal.returns-in_err-device_sizes
unfolding entry_device
returns-in_err-device_sizes c = handed _ _ c.from_residual.ensures.1 ∙ rw (sym c.in_err-device_sizes.ensures)

pub returns : goal.returns
unfolding entry_device
returns c =
    c.device_run.ensures
    ∙ rw (sym c.in_ok-device_sizes.ensures, ← c.too_wide.ensures, c.if-too_wide.false)
