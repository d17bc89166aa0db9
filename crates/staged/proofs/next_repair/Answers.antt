-- `staged::next_repair` meets its contract: refused as the state says, else one store. Assumes nothing.
use mathlib.Core.Path.{refl, sym, ap, ◌∙◌}
use native.Mathlib.Omega.{arith}
use lib.ListN.{length}
use Rattle.units.specs.Answer.{plain}
use Rattle.units.proofs.Chains.{number-of}
use Rattle.tables.proofs.Good.{room-ok}
use Rattle.staged.specs.Stores.{repair_store}
use Rattle.staged.specs.Numbers.{onward_repair, next_repair_check, next_repair_at}
use Rattle.staged.proofs.Places.{blocks-few}
use Rattle.staged.proofs.Leads.{repair-leads, leads-mend, repair-here}
use Rattle.staged.proofs.Ways.{named-next-repair, bare-next-repair, step-refused, step-accepted}
use Rattle.staged.proofs.next_repair.Goals as goal

pub returns-then-found-ne0 : goal.returns-then-found-ne0
unfolding next_repair_at
returns-then-found-ne0 c =
    let a = c.args in
    let n = length a.img.now in
    (step-refused (next_repair_check a.b (length a.img.now) a.stage a.state) (named-next-repair a.b n a.stage a.state) (c.by_number.ensures ∙ ap plain c.next_repair_check-found.ensures ∙ sym (bare-next-repair a.b n a.stage a.state).bare)
    (onward_repair a.state) a.img.now (repair_store a.b (length a.img.now) a.state a.stage a.img.now) (λ z. c.if-found-ne0.true (sym (number-of c.by_number.ensures) ∙ z)) c.reason.ensures)

pub store_repair-requires : goal.store_repair-requires
store_repair-requires c =
    let a = c.args in
    let k = leads-mend (repair-leads a.b (length a.img.now) a.stage a.state (sym c.next_repair_check-found.ensures ∙ c.if-found-ne0.false)) in
    record { len_value = k.0; le_k = k.1 }

pub onward_repair-requires : goal.onward_repair-requires
onward_repair-requires c =
    let a = c.args in
    let k = (repair-leads a.b (length a.img.now) a.stage a.state (sym c.next_repair_check-found.ensures ∙ c.if-found-ne0.false)) in omega (arith, k.stage, k.high, blocks-few _ _ (room-ok _ _ k.room))

pub returns : goal.returns
unfolding next_repair_at
returns c =
    let a = c.args in
    let n = length a.img.now in
    step-accepted (next_repair_check a.b (length a.img.now) a.stage a.state) (named-next-repair a.b n a.stage a.state) refl
    (onward_repair a.state) a.img.now (repair_store a.b (length a.img.now) a.state a.stage a.img.now) (sym c.next_repair_check-found.ensures ∙ c.if-found-ne0.false) c.onward_repair.ensures (c.store_repair.ensures ∙ repair-here a.img.now (repair-leads a.b (length a.img.now) a.stage a.state (sym c.next_repair_check-found.ensures ∙ c.if-found-ne0.false)))
