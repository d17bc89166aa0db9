-- `builder::header_of` meets its contract. Assumes nothing.
use borrow.Author.Tests.{not-true, not-false}
use Rattle.builder.proofs.header_of.Goals as goal

pub returns-then-not-s : goal.returns-then-not-s
returns-then-not-s c = rw (not-true c.args.s.primary c.if-not-s.true)

pub returns-else-not-s : goal.returns-else-not-s
returns-else-not-s c = rw (not-false c.args.s.primary c.if-not-s.false)
