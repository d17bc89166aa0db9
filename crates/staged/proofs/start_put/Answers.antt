-- `staged::start_put` meets its contract: refused as put is, else stage one. Assumes nothing.
use mathlib.Core.Path.{sym, ap, ◌∙◌}
use lib.ListN.{length}
use Rattle.units.proofs.Chains.{number-of}
use Rattle.tables.specs.Lens.{tables}
use Rattle.card.specs.Calls.{put_check}
use Rattle.card.proofs.ChangeWays.{put-good, named_put}
use Rattle.staged.specs.declared.Update.{Update}
use Rattle.staged.specs.Stages.{fixed}
use Rattle.staged.specs.Stores.{stage_store}
use Rattle.staged.specs.Numbers.{start_put_at}
use Rattle.staged.proofs.Ways.{step-refused, step-accepted}
use Rattle.staged.proofs.start_put.Goals as goal

pub put_check-found-requires : goal.put_check-found-requires
put_check-found-requires c = c.tidied_bytes-e.ensures.1

pub returns-then-found-ne0 : goal.returns-then-found-ne0
unfolding start_put_at
returns-then-found-ne0 c =
    let a = c.args in
    let e = c.tidied_bytes-e in
    let n = length a.img.now in
    let t = tables a.b a.img.now in
    rw (← e.ensures.0)
    (step-refused (put_check a.b (length a.img.now) (tables a.b a.img.now) a.slot.0 e.result a.p.flags.reserved) (named_put a.b n t a.slot.0 e.result a.p.flags.reserved) c.put_check-found.ensures
    (fixed a.b n t a.slot.0 e.result) a.img.now (stage_store a.b n (fixed a.b n t a.slot.0 e.result) 1 a.img.now) c.if-found-ne0.true c.reason.ensures)

pub begin-requires : goal.begin-requires
begin-requires c =
    let a = c.args in
    let e = c.tidied_bytes-e in
    let k = put-good a.b (length a.img.now) (tables a.b a.img.now) a.slot.0 e.result a.p.flags.reserved (sym (number-of c.put_check-found.ensures) ∙ c.if-found-ne0.false) in
    k

pub returns : goal.returns
unfolding start_put_at
returns c =
    let a = c.args in
    let e = c.tidied_bytes-e in
    let n = length a.img.now in
    let t = tables a.b a.img.now in
    let s = c.begin.ensures in
    rw (← e.ensures.0)
    (step-accepted (put_check a.b (length a.img.now) (tables a.b a.img.now) a.slot.0 e.result a.p.flags.reserved) (named_put a.b n t a.slot.0 e.result a.p.flags.reserved) c.put_check-found.ensures
    (fixed a.b n t a.slot.0 e.result) a.img.now (stage_store a.b n (fixed a.b n t a.slot.0 e.result) 1 a.img.now) c.if-found-ne0.false s.value
    (s.img_after ∙ ap (λ (u : Update). stage_store a.b n u 1 a.img.now) s.value))
