-- `checking::inner::slot_check` meets its contract: one law for each way out. Assumes nothing.
use Rattle.checking.proofs.CheckWays.{slot-checked, slot-bad, slot-fine}
use Rattle.checking.proofs.inner.slot_check.Goals as goal

pub returns-then-found-ne0 : goal.returns-then-found-ne0
returns-then-found-ne0 c = slot-checked _ _ _ _ c.check_with-found.ensures c.if-found-ne0.true

pub returns-then-bad_slot : goal.returns-then-bad_slot
returns-then-bad_slot c = slot-bad _ _ _ _ c.check_with-found.ensures c.if-found-ne0.false c.bad_slot.ensures c.if-bad_slot.true

pub returns : goal.returns
returns c = slot-fine _ _ _ _ c.check_with-found.ensures c.if-found-ne0.false c.bad_slot.ensures c.if-bad_slot.false
