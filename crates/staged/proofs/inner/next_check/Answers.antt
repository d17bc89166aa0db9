-- `staged::inner::next_check` meets its contract: one law for each way out. Assumes nothing.
use Rattle.staged.proofs.Ways.{next-1, next-26, next-fine}
use Rattle.std.proofs.Common.{ap}
use Rattle.std.specs.Prelude.{not}
use Rattle.staged.proofs.inner.next_check.Goals as goal

pub returns-then-not-good_block_size : goal.returns-then-not-good_block_size
returns-then-not-good_block_size c = let a = c.args in next-1 a.b a.len a.k a.u c.good_block_size.ensures (ap not c.if-not-good_block_size.true)

pub returns-then-not-leads : goal.returns-then-not-leads
returns-then-not-leads c = let a = c.args in next-26 a.b a.len a.k a.u c.good_block_size.ensures (ap not c.if-not-good_block_size.false) c.leads.ensures (ap not c.if-not-leads.true)

pub returns : goal.returns
returns c = let a = c.args in next-fine a.b a.len a.k a.u c.good_block_size.ensures (ap not c.if-not-good_block_size.false) c.leads.ensures (ap not c.if-not-leads.false)
