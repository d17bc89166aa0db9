-- `staged::inner::leads` meets its contract. Assumes nothing.
use Rattle.staged.specs.Numbers.{leads}
use Rattle.staged.proofs.inner.leads.Goals as goal

pub returns : goal.returns
unfolding leads
returns c = rw (← c.room_check-room.ensures, ← c.bad_slot-wrong.ensures)
