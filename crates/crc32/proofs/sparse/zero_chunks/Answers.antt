-- `zero_chunks` meets its contract: by sixteen chunks, and then by one. Assumes nothing.
use native.Mathlib.Omega.{arith}
use Rattle.crc32.proofs.Zeros.{zeros-none}
use Rattle.crc32.proofs.sparse.zero_chunks.Goals as goal

pub zero_run-n-requires : goal.zero_run-n-requires
zero_run-n-requires c = let s = c in record { le_step = (omega arith, omega arith, omega arith, omega (arith, s.requires)); from_value = zeros-none s.args.s.now s.args.at }

pub zero_run-requires : goal.zero_run-requires
zero_run-requires c = let e = c.zero_run-n.ensures in record { le_step = (omega arith, omega arith, e.0, e.1); from_value = e.2 }

pub returns : goal.returns
returns c = c.zero_run.ensures
