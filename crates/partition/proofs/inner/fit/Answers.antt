-- `partition::inner::fit` meets its contract. Assumes nothing.
use Rattle.std.proofs.Common.{arith}
use Rattle.partition.proofs.Laws.{fitted-stored}
use Rattle.partition.proofs.inner.fit.Goals as goal

pub returns : goal.returns
returns c =
    fitted-stored c.args.out.now c.args.src.now c.copy_from_slice.new.self c.fill.new.self c.min-n.result c.min-n.ensures c.copy_from_slice.ensures.after (c.fill.ensures.after (λ y e. e))
