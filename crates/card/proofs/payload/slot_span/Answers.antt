-- `card::payload::slot_span` meets its contract. Assumes nothing.
use native.Mathlib.Omega.{arith}
use Rattle.card.proofs.PayWays.{slot-first, slot-last}
use Rattle.card.proofs.payload.slot_span.Goals as goal

pub slot_in-at-requires : goal.slot_in-at-requires
slot_in-at-requires c = (c.requires.0, c.requires.1)

pub first_at-requires : goal.first_at-requires
first_at-requires c = omega (arith, c.slot_in-at.ensures.1, c.requires.2)

pub last_at-requires : goal.last_at-requires
last_at-requires c = omega (arith, c.slot_in-at.ensures.1, c.requires.2)

pub returns : goal.returns
returns c =
    let a = c.args in (
      slot-first a.b a.front.now a.slot.0 c.requires.1 c.slot_in-at.ensures.0 c.first_at.ensures,
      slot-last a.b a.front.now a.slot.0 c.requires.1 c.slot_in-at.ensures.0 c.last_at.ensures,
    )
