-- `slot_map::SlotMap::used` meets its contract. Assumes nothing.
use native.Mathlib.Omega.{arith}
use Rattle.slot_map.specs.Bits.{bits_of}
use Rattle.slot_map.proofs.BitLaws.{count-append}
use Rattle.slot_map.proofs.SlotMap.used.Goals as goal

pub returns : goal.returns
returns c = let m = c.args.self in omega (arith, count-append (bits_of 64 m.low) (bits_of 64 m.high), c.word_used.ensures.0, c.word_used-2.ensures.0)
