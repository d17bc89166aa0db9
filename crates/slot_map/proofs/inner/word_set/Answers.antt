-- `slot_map::inner::word_set` meets its contract. Assumes nothing.
use Prim.Native.Nat.{◌<◌}
use Rattle.slot_map.proofs.BitLaws.{one_shl, or_set}
use Rattle.slot_map.proofs.inner.word_set.Goals as goal

pub returns : goal.returns
returns c = let a = c.args in let h : a.k < 64 = c.requires in rw (one_shl a.k h) (or_set 64 a.x a.k h)
