-- `uefi::count_primary` meets its contract: the plan's own count. Assumes nothing.
use mathlib.Core.Path.{◌∙◌}
use Rattle.uefi.proofs.Planned.{plain-primary-entries, plan-counts}
use Rattle.uefi.proofs.count_primary.Goals as goal

pub returns : goal.returns
returns c =
    let a = c.args in
    c.answer.ensures ∙ plan-counts a.img.now c.plan_primary-p.result _ (plain-primary-entries a.img.now a.b) c.plan_primary-p.ensures
