-- `reader::listing` meets its contract: the plan of the table that the reader takes, carried out. Assumes nothing.
use lib.ListN.{length}
use Rattle.rows.specs.Plans.{plainly}
use Rattle.rows.proofs.Laws.{row-shown}
use Rattle.reader.specs.Reader.{reader_read}
use Rattle.reader.proofs.LentRow.{read-within, read-plainly}
use Rattle.reader.proofs.listing.Goals as goal

pub returns : goal.returns
returns c =
    let a = c.args in
    let m = length a.row.now in
    row-shown plainly (reader_read a.b a.img.now m) a.row.now
    c.plan_of-p.ensures.1 (read-within a.b a.img.now m) (read-plainly a.b a.img.now m a.row.now) c.fill-q.ensures c.answer.ensures
