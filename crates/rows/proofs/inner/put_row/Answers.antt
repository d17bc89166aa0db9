-- `rows::inner::put_row` meets its contract. Assumes nothing.
use Rattle.rows.proofs.ByteRows.{row-stored}
use Rattle.rows.proofs.inner.put_row.Goals as goal

pub returns : goal.returns
returns c =
    let a = c.args in
    row-stored a.e a.out.now a.at.0 (rw c.from.ensures at c.put.ensures) c.put_entry.ensures
