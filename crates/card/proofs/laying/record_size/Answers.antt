-- `card::laying::record_size` meets its contract. Assumes nothing.
use borrow.Author.Tests.{lt-ltb, le-ltb}
use Rattle.card.proofs.laying.record_size.Goals as goal

pub returns-then-last-lt4294967295 : goal.returns-then-last-lt4294967295
returns-then-last-lt4294967295 c = rw (lt-ltb _ _ c.if-last-lt4294967295.true)

pub returns-else-last-lt4294967295 : goal.returns-else-last-lt4294967295
returns-else-last-lt4294967295 c = rw (le-ltb _ _ c.if-last-lt4294967295.false)
