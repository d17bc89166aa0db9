-- `rows::inner::next_slot` meets its contract, by the types and by the 128 bytes. Assumes nothing.
use Rattle.rows.proofs.Laws.{after-by-type, after-whole}
use Rattle.rows.proofs.inner.next_slot.Goals as goal

pub next_used-requires : goal.next_used-requires
next_used-requires c = let l = c.requires in (l.size, l.within)

pub returns-then-p : goal.returns-then-p
returns-then-p c = after-by-type _ _ _ c.if-p.true c.or_before_first.ensures c.next_used.ensures

pub next_present-requires : goal.next_present-requires
next_present-requires c =
    let l = c.requires in
    rw (l.whole c.if-p.false) at l.within

pub returns : goal.returns
returns c = after-whole _ _ _ c.if-p.false c.or_before_first-2.ensures c.next_present.ensures
