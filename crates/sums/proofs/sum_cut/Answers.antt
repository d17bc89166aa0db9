use Rattle.std.proofs.Common.{◌∙◌}
use Rattle.sums.proofs.Cutting.{cut-next}
use Rattle.sums.proofs.sum_cut.Goals as goal

pub loop-cut-preserved : goal.loop-cut-preserved
loop-cut-preserved c =
    let l = c.loop-cut in
    cut-next l.rest.now c.min-n.result l.sum c.crc32_next-sum.ensures ∙ l.invariant
