-- `card::put` meets its contract: refused as it was, else changed. Assumes nothing.
use mathlib.Core.Path.{sym, ◌∙◌}
use lib.ListN.{length}
use Rattle.units.proofs.Chains.{number-of}
use Rattle.tables.specs.Lens.{tables}
use Rattle.card.specs.Calls.{put_check, put_at}
use Rattle.card.proofs.ChangeWays.{put-good, named_put, refuses, accepts}
use Rattle.card.proofs.put.Goals as goal

pub put_check-found-requires : goal.put_check-found-requires
put_check-found-requires c = c.tidied_bytes-e.ensures.1

pub returns-then-found-ne0 : goal.returns-then-found-ne0
unfolding put_at
returns-then-found-ne0 c =
    let a = c.args in
    let e = c.tidied_bytes-e in
    rw (c.verdict.ensures, ← e.ensures.0)
    (refuses (put_check a.b (length a.img.now) (tables a.b a.img.now) a.slot.0 e.result a.p.flags.reserved) (named_put a.b (length a.img.now) (tables a.b a.img.now) a.slot.0 e.result a.p.flags.reserved) c.put_check-found.ensures a.img.now _ c.if-found-ne0.true)

pub change-requires : goal.change-requires
change-requires c =
    let a = c.args in
    let e = c.tidied_bytes-e in
    let k = put-good a.b (length a.img.now) (tables a.b a.img.now) a.slot.0 e.result a.p.flags.reserved (sym (number-of c.put_check-found.ensures) ∙ c.if-found-ne0.false) in
    record { img_value = k.0; slot_value = (k.1, e.ensures.1) }

pub returns : goal.returns
unfolding put_at
returns c =
    let a = c.args in
    let e = c.tidied_bytes-e in
    rw (← e.ensures.0)
    (accepts (put_check a.b (length a.img.now) (tables a.b a.img.now) a.slot.0 e.result a.p.flags.reserved) (named_put a.b (length a.img.now) (tables a.b a.img.now) a.slot.0 e.result a.p.flags.reserved) c.put_check-found.ensures a.img.now _ c.if-found-ne0.false c.change.ensures)
