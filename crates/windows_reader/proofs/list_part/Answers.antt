-- `windows_reader::list_part` meets its contract: the plan of a part, carried out. Assumes nothing.
use lib.ListN.{length}
use Rattle.rows.specs.Plans.{plainly}
use Rattle.rows.proofs.Laws.{row-shown}
use Rattle.windows_reader.specs.Parts.{part_read}
use Rattle.windows_reader.proofs.LentRow.{part-within, part-plainly}
use Rattle.windows_reader.proofs.list_part.Goals as goal

pub returns : goal.returns
returns c =
    let a = c.args in
    let m = length a.row.now in
    row-shown plainly (part_read a.part.now m) a.row.now c.plan_of-p.ensures.1 (part-within a.part.now m) (part-plainly a.part.now m a.row.now) c.fill-q.ensures c.answer.ensures
