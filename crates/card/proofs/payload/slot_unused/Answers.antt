-- `card::payload::slot_unused` meets its contract. Assumes nothing.
use native.Mathlib.Omega.{arith}
use Rattle.card.proofs.PayWays.{slot-unused}
use Rattle.card.proofs.payload.slot_unused.Goals as goal

pub slot_in-requires : goal.slot_in-requires
slot_in-requires c = (c.requires.0, c.requires.1)

pub nil_type_at-requires : goal.nil_type_at-requires
nil_type_at-requires c = omega (arith, c.slot_in.ensures.1, c.requires.2)

pub returns : goal.returns
returns c = slot-unused c.args.b c.args.front.now c.args.slot.0 c.requires.1 c.slot_in.ensures.0 c.nil_type_at.ensures
