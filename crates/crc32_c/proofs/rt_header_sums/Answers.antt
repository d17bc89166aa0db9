-- What was summed, and the sums that are left, give all. Assumes nothing.
use Rattle.std.proofs.Common.{sym, ◌∙◌, arith}
use Rattle.crc32_c.specs.Exports.{short-sums, whole-sums, sums-more, sums_none}
use Rattle.crc32_c.proofs.rt_header_sums.Goals as goal

pub returns-then-s-lt92 : goal.returns-then-s-lt92
returns-then-s-lt92 c = sym (short-sums _ _ c.if-s-lt92.true)

pub loop-i-preserved : goal.loop-i-preserved
loop-i-preserved c =
    let l = c.loop-i in
    (omega arith, omega arith, rw (c.following-at.ensures.0, c.header_sum_at-sum.ensures) (sums-more c.args.s.now l.at l.i c.args.n l.sum (omega arith) ∙ l.invariant.2))

pub returns : goal.returns
returns c =
    let l = c.loop-i in
    sym (sums_none c.args.s.now l.at l.i c.args.n l.sum (omega arith)) ∙ l.invariant.2 ∙ sym (whole-sums c.args.s.now c.args.n (omega arith))
