-- `staged::inner::fix` meets its contract: the GUID and the new sum come from the front table. Assumes nothing.
use native.Mathlib.Omega.{arith}
use borrow.Author.Rules.{rules}
use Rattle.tables.proofs.Good.{room-ok}
use Rattle.staged.proofs.Ways.{fixed-by}
use Rattle.staged.proofs.inner.fix.Goals as goal

pub front_guid-guid-requires : goal.front_guid-guid-requires
front_guid-guid-requires c = let r = room-ok _ _ c.requires.len_value.0 in (omega (arith, r.least), r.most, c.requires.len_value.1)

pub front_sum-parts-requires : goal.front_sum-parts-requires
front_sum-parts-requires c = record { len_value = c.requires.len_value; b_value = c.requires.b_value; slot_value = (c.requires.slot_value, (search rules)) }

pub returns : goal.returns
returns c = let a = c.args in λ f q. fixed-by a.b a.len f a.slot a.e q c.front_guid-guid.ensures.fields c.front_sum-parts.ensures
