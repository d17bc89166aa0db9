-- `mbr::PartRecord::from_bytes` meets its contract. Assumes nothing.
use borrow.Author.Tests.{eq-eqb, ne_eqb}
use Rattle.mbr.specs.Parsing.{record_parsed}
use Rattle.mbr.proofs.PartRecord.from_bytes.Goals as goal

pub returns-then-buf-ne16 : goal.returns-then-buf-ne16
unfolding record_parsed
returns-then-buf-ne16 c = rw (ne_eqb _ _ c.if-buf-ne16.true)

pub returns : goal.returns
unfolding record_parsed
returns c = rw (eq-eqb _ _ c.if-buf-ne16.false, c.record_at.ensures)
