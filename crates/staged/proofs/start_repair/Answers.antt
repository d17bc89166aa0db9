-- `staged::start_repair` meets its contract: refused as the reader is, else the state and the zeros. Assumes nothing.
use mathlib.Core.Path.{refl, sym, ap, ◌∙◌}
use lib.ListN.{length}
use Rattle.units.specs.Answer.{plain}
use Rattle.units.proofs.Chains.{number-of}
use Rattle.tables.specs.Lens.{tables}
use Rattle.reader.specs.Reader.{reader_check}
use Rattle.reader.proofs.Ways.{read-room, named-reader, bare-reader}
use Rattle.staged.specs.Repairs.{repair_of}
use Rattle.staged.specs.Stores.{repair_store}
use Rattle.staged.specs.Numbers.{start_repair_at}
use Rattle.staged.proofs.Ways.{step-refused, step-accepted, taken-good, repair-is, zeros-first}
use Rattle.staged.proofs.start_repair.Goals as goal

pub returns-then-found-ne0 : goal.returns-then-found-ne0
unfolding start_repair_at
returns-then-found-ne0 c =
    let a = c.args in
    let n = length a.img.now in
    let t = tables a.b a.img.now in
    (step-refused (reader_check a.b (length a.img.now) (tables a.b a.img.now)) (named-reader a.b n t) (c.by_number.ensures ∙ ap plain c.choose-found.ensures.0 ∙ sym (bare-reader a.b n t).bare)
    (repair_of a.b n t) a.img.now (repair_store a.b n (repair_of a.b n t) 1 a.img.now) (λ z. c.if-found-ne0.true (sym (number-of c.by_number.ensures) ∙ z)) c.reason.ensures)

pub repair_of-good-requires : goal.repair_of-good-requires
repair_of-good-requires c =
    let a = c.args in
    record { img_value = (read-room a.b (length a.img.now) (tables a.b a.img.now) (sym c.choose-found.ensures.0 ∙ c.if-found-ne0.false)); img_value_2 = taken-good a.b (length a.img.now) (tables a.b a.img.now) c.choose-found.result.back (sym c.choose-found.ensures.0 ∙ c.if-found-ne0.false) (c.choose-found.ensures.1 c.if-found-ne0.false) }

pub store_zeros-requires : goal.store_zeros-requires
store_zeros-requires c =
    let a = c.args in
    (read-room a.b (length a.img.now) (tables a.b a.img.now) (sym c.choose-found.ensures.0 ∙ c.if-found-ne0.false))

pub returns : goal.returns
unfolding start_repair_at
returns c =
    let a = c.args in
    let n = length a.img.now in
    let t = tables a.b a.img.now in
    let back = c.choose-found.ensures.1 c.if-found-ne0.false in
    step-accepted (reader_check a.b (length a.img.now) (tables a.b a.img.now)) (named-reader a.b n t) refl
    (repair_of a.b n t) a.img.now (repair_store a.b n (repair_of a.b n t) 1 a.img.now) (sym c.choose-found.ensures.0 ∙ c.if-found-ne0.false)
    (c.repair_of-good.ensures ∙ repair-is a.b n t back) (c.store_zeros.ensures ∙ zeros-first a.b n t a.img.now back)
