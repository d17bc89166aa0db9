-- `reader::inner::slot_in` meets its contract. Assumes nothing.
use native.Mathlib.Omega.{arith}
use Rattle.reader.proofs.Ways.{slot-place, held-read}
use Rattle.reader.proofs.inner.slot_in.Goals as goal

pub entry_if_present-requires : goal.entry_if_present-requires
entry_if_present-requires c =
    omega (arith, (slot-place c.args.slot.0 c.requires.1 c.array_place-k.ensures c.entry_place-at.ensures).0, c.requires.0)

pub returns : goal.returns
returns c =
    held-read c.args.array.now c.args.slot.0 (slot-place c.args.slot.0 c.requires.1 c.array_place-k.ensures c.entry_place-at.ensures).1 c.entry_if_present.ensures
