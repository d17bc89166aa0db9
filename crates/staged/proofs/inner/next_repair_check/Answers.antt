-- `staged::inner::next_repair_check` meets its contract: one law for each way out. Assumes nothing.
use Rattle.staged.proofs.Ways.{next-repair-1, next-repair-26, next-repair-fine}
use Rattle.std.proofs.Common.{ap}
use Rattle.std.specs.Prelude.{not}
use Rattle.staged.proofs.inner.next_repair_check.Goals as goal

pub returns-then-not-good_block_size : goal.returns-then-not-good_block_size
returns-then-not-good_block_size c = let a = c.args in next-repair-1 a.b a.len a.k a.r c.good_block_size.ensures (ap not c.if-not-good_block_size.true)

pub returns-then-not-leads_repair : goal.returns-then-not-leads_repair
returns-then-not-leads_repair c = let a = c.args in next-repair-26 a.b a.len a.k a.r c.good_block_size.ensures (ap not c.if-not-good_block_size.false) c.leads_repair.ensures (ap not c.if-not-leads_repair.true)

pub returns : goal.returns
returns c = let a = c.args in next-repair-fine a.b a.len a.k a.r c.good_block_size.ensures (ap not c.if-not-good_block_size.false) c.leads_repair.ensures (ap not c.if-not-leads_repair.false)
