-- `slot_map::inner::word_free` meets its contract. Assumes nothing.
use native.Mathlib.Omega.{arith}
use Rattle.slot_map.proofs.BitLaws.{trailing-first}
use Rattle.slot_map.proofs.inner.word_free.Goals as goal

pub returns : goal.returns
returns c = trailing-first 64 c.args.x (omega arith)
