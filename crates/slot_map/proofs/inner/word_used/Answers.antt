-- `slot_map::inner::word_used` meets its contract. Assumes nothing.
use native.Mathlib.Omega.{arith}
use lib.Count.{ones-le}
use Rattle.slot_map.proofs.BitLaws.{ones-count}
use Rattle.slot_map.proofs.inner.word_used.Goals as goal

pub returns : goal.returns
returns c = (ones-count 64 c.args.x (omega arith), ones-le 64 c.args.x (omega arith))
