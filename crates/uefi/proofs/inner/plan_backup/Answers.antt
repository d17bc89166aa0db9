-- `uefi::inner::plan_backup` meets its contract. Assumes nothing.
use mathlib.Core.Path.{ap, ◌∙◌}
use Rattle.units.specs.Answer.{Answer, and_then}
use Rattle.header.specs.declared.Header.{Header}
use Rattle.uefi.specs.Array.{entries_by_uefi, backup_entries}
use Rattle.uefi.proofs.inner.plan_backup.Goals as goal

pub returns : goal.returns
unfolding backup_entries
returns c =
    let a = c.args in
    let p = c.plan_read.ensures in
    (p.0, p.1 ∙ ap (λ (r : Answer Header). and_then r (λ h. entries_by_uefi a.img.now h a.b)) c.backup-r.ensures)
