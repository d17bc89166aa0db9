-- One law for each of its two ways out. Assumes nothing.
use Rattle.std.proofs.Common.{rules}
use Rattle.crc32_c.specs.Exports.{short-sum, whole_sum}
use Rattle.crc32_c.proofs.rt_header_sum.Goals as goal

pub returns-then-h-lt92 : goal.returns-then-h-lt92
returns-then-h-lt92 c = search (short-sum, rules)

pub returns : goal.returns
returns c = search (whole_sum, rules)
