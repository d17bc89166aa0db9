-- `staged::next_stage` meets its contract: refused as the state says, else one store. Assumes nothing.
use mathlib.Core.Path.{refl, sym, ap, ◌∙◌}
use native.Mathlib.Omega.{arith}
use lib.ListN.{length}
use Rattle.units.specs.Answer.{plain}
use Rattle.units.proofs.Chains.{number-of}
use Rattle.staged.specs.Stores.{stage_store}
use Rattle.staged.specs.Numbers.{onward, next_check, next_at}
use Rattle.staged.proofs.Leads.{next-leads, leads-store, stage-here}
use Rattle.staged.proofs.Ways.{named-next, bare-next, step-refused, step-accepted}
use Rattle.staged.proofs.next_stage.Goals as goal

pub returns-then-found-ne0 : goal.returns-then-found-ne0
unfolding next_at
returns-then-found-ne0 c =
    let a = c.args in
    let n = length a.img.now in
    let w = next_check a.b (length a.img.now) a.stage a.state in
    (step-refused w (named-next a.b n a.stage a.state) (c.by_number.ensures ∙ ap plain c.next_check-found.ensures ∙ sym (bare-next a.b n a.stage a.state).bare)
    (onward a.state) a.img.now (stage_store a.b n a.state a.stage a.img.now) (λ z. c.if-found-ne0.true (sym (number-of c.by_number.ensures) ∙ z)) c.reason.ensures)

pub store_stage-requires : goal.store_stage-requires
store_stage-requires c =
    let a = c.args in
    let k = (next-leads a.b (length a.img.now) a.stage a.state (sym c.next_check-found.ensures ∙ c.if-found-ne0.false)) in
    record { len_value = leads-store k; le_k = (omega (arith, k.low), k.high) }

pub onward-requires : goal.onward-requires
onward-requires c =
    let a = c.args in
    let k = (next-leads a.b (length a.img.now) a.stage a.state (sym c.next_check-found.ensures ∙ c.if-found-ne0.false)) in omega (arith, k.stage, k.high)

pub returns : goal.returns
unfolding next_at
returns c =
    let a = c.args in
    let n = length a.img.now in
    step-accepted (next_check a.b (length a.img.now) a.stage a.state) (named-next a.b n a.stage a.state) refl (onward a.state) a.img.now (stage_store a.b (length a.img.now) a.state a.stage a.img.now)
    (sym c.next_check-found.ensures ∙ c.if-found-ne0.false) c.onward.ensures (c.store_stage.ensures ∙ stage-here a.img.now (next-leads a.b (length a.img.now) a.stage a.state (sym c.next_check-found.ensures ∙ c.if-found-ne0.false)))
