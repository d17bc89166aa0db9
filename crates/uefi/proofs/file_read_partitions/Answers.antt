-- `uefi::file_read_partitions` meets its contract: the plan that is made, carried out. Assumes nothing.
use mathlib.Core.Path.{refl}
use lib.ListN.{length}
use Rattle.rows.specs.Plans.{roomed, plainly}
use Rattle.rows.proofs.Laws.{row-shown}
use Rattle.uefi.specs.Array.{entries_by_uefi}
use Rattle.uefi.proofs.Planned.{plain-entries, plain_row}
use Rattle.uefi.proofs.file_read_partitions.Goals as goal

pub returns : goal.returns
returns c =
    let a = c.args in
    let m = length a.row.now in
    row-shown plainly (roomed m (entries_by_uefi a.img.now a.h a.b)) a.row.now c.plan_for-p.ensures.1 refl (plain_row m (entries_by_uefi a.img.now a.h a.b) a.row.now (plain-entries a.img.now a.h a.b)) c.fill-q.ensures c.answer.ensures
