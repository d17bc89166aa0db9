-- `guid_text::inner::put_guid_text` meets its contract. Assumes nothing.
use Rattle.guid_text.proofs.Laws.{text-made}
use borrow.Author.Rules.{rules}
use Rattle.guid_text.proofs.inner.put_guid_text.Goals as goal

pub returns : goal.returns
returns c =
    text-made
    c.args.guid _ _ _ _ _ _
    (search rules)
    c.put_group.ensures
    c.put_group-2.ensures
    c.put_group-3.ensures
    (rw c.clock.ensures at c.put_group-4.ensures)
    (rw c.node.ensures at c.put_digits.ensures)
