-- `staged::start_clear` meets its contract: refused as clear is, else stage one. Assumes nothing.
use mathlib.Core.Path.{sym, ap, ◌∙◌}
use lib.ListN.{length}
use Rattle.units.proofs.Chains.{number-of}
use Rattle.tables.specs.Lens.{tables}
use Rattle.tables.specs.Entries.{zeros}
use Rattle.tables.specs.Check.{slot_check}
use Rattle.checking.proofs.CheckWays.{slot-good, named-slot}
use Rattle.staged.specs.declared.Update.{Update}
use Rattle.staged.specs.Stages.{fixed}
use Rattle.staged.specs.Stores.{stage_store}
use Rattle.staged.specs.Numbers.{start_clear_at}
use Rattle.staged.proofs.Ways.{step-refused, step-accepted}
use Rattle.staged.proofs.start_clear.Goals as goal

pub returns-then-found-ne0 : goal.returns-then-found-ne0
unfolding start_clear_at
returns-then-found-ne0 c =
    let a = c.args in
    let n = length a.img.now in
    let t = tables a.b a.img.now in
    (step-refused (slot_check a.b (length a.img.now) (tables a.b a.img.now) a.slot.0) (named-slot a.b n t a.slot.0) c.slot_check-found.ensures
    (fixed a.b n t a.slot.0 (zeros 128)) a.img.now (stage_store a.b n (fixed a.b n t a.slot.0 (zeros 128)) 1 a.img.now) c.if-found-ne0.true c.reason.ensures)

pub begin-requires : goal.begin-requires
begin-requires c =
    let a = c.args in
    slot-good a.b (length a.img.now) (tables a.b a.img.now) a.slot.0 (sym (number-of c.slot_check-found.ensures) ∙ c.if-found-ne0.false)

pub returns : goal.returns
unfolding start_clear_at zeros
returns c =
    let a = c.args in
    let n = length a.img.now in
    let t = tables a.b a.img.now in
    let s = c.begin.ensures in
    step-accepted (slot_check a.b (length a.img.now) (tables a.b a.img.now) a.slot.0) (named-slot a.b n t a.slot.0) c.slot_check-found.ensures
    (fixed a.b n t a.slot.0 (zeros 128)) a.img.now (stage_store a.b n (fixed a.b n t a.slot.0 (zeros 128)) 1 a.img.now) c.if-found-ne0.false s.value
    (s.img_after ∙ ap (λ (u : Update). stage_store a.b n u 1 a.img.now) s.value)
