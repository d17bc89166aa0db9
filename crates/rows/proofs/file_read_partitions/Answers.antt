-- `rows::file_read_partitions` meets its contract: the plan of a header's array, carried out. Assumes nothing.
use lib.ListN.{length}
use Rattle.rows.specs.Row.{partitions_read}
use Rattle.rows.specs.Plans.{plainly}
use Rattle.rows.proofs.Laws.{row-shown, found_within, read-plainly}
use Rattle.rows.proofs.file_read_partitions.Goals as goal

pub returns : goal.returns
returns c =
    let a = c.args in
    let m = length a.row.now in
    row-shown plainly (partitions_read a.img.now a.h a.b m) a.row.now
    c.plan_for-p.ensures.1 (found_within a.img.now a.h a.b m) (read-plainly a.img.now a.h a.b m a.row.now) c.fill-q.ensures c.answer.ensures
