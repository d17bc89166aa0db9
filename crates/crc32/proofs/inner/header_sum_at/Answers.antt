-- `inner::header_sum_at` meets its contract: what it feeds in three parts is the header with its own field as zero.
-- Assumes nothing.
use Prim.Native.Nat.{◌+◌, ◌-◌}
use native.Mathlib.Omega.{arith}
use Rattle.crc32.proofs.Laws.{header-parts}
use Rattle.crc32.proofs.inner.header_sum_at.Goals as goal

pub returns : goal.returns
returns c =
    let a = c.args in
    header-parts a.s.now a.at (a.at + 16 - a.at) (a.at + 92 - (a.at + 20)) c.block-front.result c.four-field.result c.run.result
    c.block-front.ensures c.four-field.ensures c.run.ensures (omega arith) (omega arith)
