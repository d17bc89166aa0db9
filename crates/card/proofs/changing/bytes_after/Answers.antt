-- `card::changing::bytes_after` meets its contract. Assumes nothing.
use native.Mathlib.Omega.{arith}
use Rattle.tables.proofs.Good.{slot_ok}
use Rattle.card.proofs.changing.bytes_after.Goals as goal

pub overflow_sub-result : goal.overflow_sub-result
overflow_sub-result c = omega (arith, (slot_ok c.args.slot.0 c.requires).1, c.array_place-k.ensures)

pub returns : goal.returns
returns c = let o = slot_ok c.args.slot.0 c.requires in omega (arith, o.0, o.1, c.array_place-k.ensures)
