-- `staged::inner::leads_repair` meets its contract: without room no stage, and else each test. Assumes nothing.
use mathlib.Core.Path.{sym, ◌∙◌}
use native.Mathlib.Omega.{arith}
use Rattle.tables.proofs.Good.{room-ok}
use Rattle.staged.proofs.Places.{blocks-few}
use Rattle.staged.proofs.Ways.{no_room, with-room}
use Rattle.staged.proofs.inner.leads_repair.Goals as goal

pub returns-then-room-ne0 : goal.returns-then-room-ne0
returns-then-room-ne0 c = let a = c.args in no_room a.b a.len a.k a.r c.room_check-room.ensures c.if-room-ne0.true

pub nonzero_div-last : goal.nonzero_div-last
nonzero_div-last c = omega (arith, (room-ok _ _ (sym c.room_check-room.ensures ∙ c.if-room-ne0.false)).least)

pub overflow_add-last : goal.overflow_add-last
overflow_add-last c = omega (arith, blocks-few _ _ (room-ok _ _ (sym c.room_check-room.ensures ∙ c.if-room-ne0.false)))

pub returns : goal.returns
returns c = let a = c.args in with-room a.b a.len a.k a.r c.room_check-room.ensures c.if-room-ne0.false
