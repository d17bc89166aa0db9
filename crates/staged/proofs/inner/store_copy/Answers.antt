-- `staged::inner::store_copy` meets its contract. Assumes nothing.
use mathlib.Core.Path.{ap, ◌∙◌}
use borrow.Author.Rules.{rules}
use lib.ListN.{length}
use lib.Seq.{length-sets}
use Rattle.tables.proofs.Good.{room-ok}
use Rattle.staged.proofs.inner.store_copy.Goals as goal

pub put_header-requires : goal.put_header-requires
put_header-requires c = (c.requires.0, c.requires.2)

pub shape_of-copy-then-header : goal.shape_of-copy-then-header
shape_of-copy-then-header c = ap length c.put_header.ensures ∙ simp length-sets

pub returns-then-header : goal.returns-then-header
returns-then-header c = rw c.if-header.true c.put_header.ensures

pub put_slot-requires : goal.put_slot-requires
put_slot-requires c = record { b_bound = ((room-ok _ _ c.requires.0).most, c.requires.1); copy_len = (c.requires.2, (search rules)) }

pub shape_of-copy : goal.shape_of-copy
shape_of-copy c = ap length c.put_slot.ensures ∙ simp length-sets

pub returns : goal.returns
returns c = rw c.if-header.false c.put_slot.ensures
