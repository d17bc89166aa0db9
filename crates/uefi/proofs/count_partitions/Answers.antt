-- `uefi::count_partitions` meets its contract: the plan's own count. Assumes nothing.
use mathlib.Core.Path.{◌∙◌}
use Rattle.uefi.proofs.Planned.{plain-entries, plan-counts}
use Rattle.uefi.proofs.count_partitions.Goals as goal

pub returns : goal.returns
returns c =
    let a = c.args in
    c.answer.ensures ∙ plan-counts a.img.now c.plan_for-p.result _ (plain-entries a.img.now a.h a.b) c.plan_for-p.ensures
