-- `uefi::list_primary` meets its contract: the plan that is made, carried out. Assumes nothing.
use mathlib.Core.Path.{refl}
use lib.ListN.{length}
use Rattle.rows.specs.Plans.{roomed, plainly}
use Rattle.rows.proofs.Laws.{row-shown}
use Rattle.uefi.specs.Array.{primary_entries}
use Rattle.uefi.proofs.Planned.{plain-primary-entries, plain_row}
use Rattle.uefi.proofs.list_primary.Goals as goal

pub returns : goal.returns
returns c =
    let a = c.args in
    let m = length a.row.now in
    row-shown plainly (roomed m (primary_entries a.img.now a.b)) a.row.now c.plan_primary-p.ensures.1 refl (plain_row m (primary_entries a.img.now a.b) a.row.now (plain-primary-entries a.img.now a.b)) c.fill-q.ensures c.answer.ensures
