-- `slot_map::inner::word_clear` meets its contract. Assumes nothing.
use Prim.Native.Nat.{◌<◌}
use Rattle.slot_map.proofs.BitLaws.{one_shl, and-clear}
use Rattle.slot_map.proofs.inner.word_clear.Goals as goal

pub returns : goal.returns
returns c = let a = c.args in let h : a.k < 64 = c.requires in rw (one_shl a.k h) (and-clear 64 a.x a.k h)
