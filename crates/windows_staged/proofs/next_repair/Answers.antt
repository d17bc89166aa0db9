-- `windows_staged::next_repair` meets its contract: refused as the state and the windows say, else one store. Assumes nothing.
use mathlib.Core.Path.{◌≡◌, ap, ◌∙◌}
use native.Mathlib.Omega.{arith}
use lib.ListN.{length}
use Rattle.units.proofs.Results.{card-handed}
use Rattle.tables.proofs.Good.{room-ok}
use Rattle.staged.proofs.Leads.{leads-mend}
use Rattle.staged.proofs.Places.{blocks-few}
use Rattle.windows.specs.Windows.{head_long, tail_long}
use Rattle.windows_staged.specs.Stages.{next_repair_why}
use Rattle.windows_staged.proofs.Ways.{named-repair, bare-repair, later-refused, later-zero, own-refused, next-repair-fits, next-repair-stored}
use Rattle.windows_staged.proofs.next_repair.Goals as goal

pub returns-in_err-verdict : goal.returns-in_err-verdict
returns-in_err-verdict c =
    let a = c.args in
    let h = length a.head.now in
    let t = length a.tail.now in
    let l = later-refused (next_repair_why a.b a.blocks h t a.stage a.state) c.next_repair_check-found.ensures c.by_number.ensures (bare-repair a.b a.blocks h t a.stage a.state) (named-repair a.b a.blocks h t a.stage a.state) c.in_err-verdict.ensures in
    rw (card-handed _ _ c.from_residual.ensures.1, l.1) (own-refused _ a.b a.blocks a.head.now a.tail.now _ l.0)

pub store_repair-requires : goal.store_repair-requires
store_repair-requires c =
    let zero : let a = c.args in (next_repair_why a.b a.blocks (length a.head.now) (length a.tail.now) a.stage a.state).number ≡ 0 = let a = c.args in later-zero (next_repair_why a.b a.blocks (length a.head.now) (length a.tail.now) a.stage a.state) c.next_repair_check-found.ensures c.by_number.ensures c.in_ok-verdict.ensures in
    let a = c.args in
    let q = next-repair-fits a.b a.blocks a.head.now a.tail.now a.stage a.state zero in
    let l = leads-mend q.0 in
    (l.0.0, q.1 ∙ ap head_long q.0.block, q.2 ∙ ap tail_long q.0.block, q.0.low)

pub onward_repair-requires : goal.onward_repair-requires
onward_repair-requires c =
    let zero : let a = c.args in (next_repair_why a.b a.blocks (length a.head.now) (length a.tail.now) a.stage a.state).number ≡ 0 = let a = c.args in later-zero (next_repair_why a.b a.blocks (length a.head.now) (length a.tail.now) a.stage a.state) c.next_repair_check-found.ensures c.by_number.ensures c.in_ok-verdict.ensures in
    let a = c.args in
    let q = next-repair-fits a.b a.blocks a.head.now a.tail.now a.stage a.state zero in
    omega (arith, q.0.stage, q.0.high, blocks-few _ _ (room-ok _ _ q.0.room))

pub returns : goal.returns
returns c =
    let zero : let a = c.args in (next_repair_why a.b a.blocks (length a.head.now) (length a.tail.now) a.stage a.state).number ≡ 0 = let a = c.args in later-zero (next_repair_why a.b a.blocks (length a.head.now) (length a.tail.now) a.stage a.state) c.next_repair_check-found.ensures c.by_number.ensures c.in_ok-verdict.ensures in
    let a = c.args in
    rw c.onward_repair.ensures (next-repair-stored a.b a.blocks a.head.now a.tail.now a.stage a.state zero c.store_repair.ensures)
