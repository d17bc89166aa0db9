-- `partition::Partition::write_zero_entries_to_device` meets its contract: one law for each way out. Assumes nothing.
use mathlib.Core.Path.{sym, ap, ◌∙◌}
use native.Mathlib.Omega.{arith}
use Rattle.units.proofs.Results.{ends-handed}
use Rattle.units.specs.Answer.{ends}
use Rattle.units.specs.Meanings.{means}
use Rattle.units.proofs.Laws.{inside-yes}
use Rattle.partition.proofs.Ways.{device-tells, stored_refused, stored-none, stored-outside, stored-inside}
use Rattle.std.specs.Prelude.{not}
use Rattle.partition.proofs.Partition.write_zero_entries_to_device.Goals as goal

pub overflow_mul-n : goal.overflow_mul-n
overflow_mul-n c = omega (arith, (device-tells _ _ _ _ _ _ (sym c.in_ok-at.ensures)).ends)

pub returns-then-n-eq0 : goal.returns-then-n-eq0
returns-then-n-eq0 c = ends (stored-none _ _ (sym c.in_ok-at.ensures) c.if-n-eq0.true)

pub returns-then-not-is_inside : goal.returns-then-not-is_inside
returns-then-not-is_inside c =
    ends
    (stored-outside _ _ (sym c.in_ok-at.ensures) _ c.if-n-eq0.false c.is_inside.ensures (ap not c.if-not-is_inside.true))

pub put_zeros-requires : goal.put_zeros-requires
put_zeros-requires c = inside-yes _ _ _ c.is_inside.ensures (ap not c.if-not-is_inside.false)

pub returns-in_err-at : goal.returns-in_err-at
returns-in_err-at c = ends-handed _ _ c.from_residual.ensures.1 (stored_refused _ _ _ (sym c.in_err-at.ensures))

pub returns : goal.returns
returns c =
    ends
    (stored-inside _ _ (sym c.in_ok-at.ensures) _ c.if-n-eq0.false c.is_inside.ensures (ap not c.if-not-is_inside.false) c.put_zeros.ensures)
