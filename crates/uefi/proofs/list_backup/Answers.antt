-- `uefi::list_backup` meets its contract: the plan that is made, carried out. Assumes nothing.
use mathlib.Core.Path.{refl}
use lib.ListN.{length}
use Rattle.rows.specs.Plans.{roomed, plainly}
use Rattle.rows.proofs.Laws.{row-shown}
use Rattle.uefi.specs.Array.{backup_entries}
use Rattle.uefi.proofs.Planned.{plain-backup-entries, plain_row}
use Rattle.uefi.proofs.list_backup.Goals as goal

pub returns : goal.returns
returns c =
    let a = c.args in
    let m = length a.row.now in
    row-shown plainly (roomed m (backup_entries a.img.now a.b)) a.row.now c.plan_backup-p.ensures.1 refl (plain_row m (backup_entries a.img.now a.b) a.row.now (plain-backup-entries a.img.now a.b)) c.fill-q.ensures c.answer.ensures
