-- `uefi::count_backup` meets its contract: the plan's own count. Assumes nothing.
use mathlib.Core.Path.{◌∙◌}
use Rattle.uefi.proofs.Planned.{plain-backup-entries, plan-counts}
use Rattle.uefi.proofs.count_backup.Goals as goal

pub returns : goal.returns
returns c =
    let a = c.args in
    c.answer.ensures ∙ plan-counts a.img.now c.plan_backup-p.result _ (plain-backup-entries a.img.now a.b) c.plan_backup-p.ensures
