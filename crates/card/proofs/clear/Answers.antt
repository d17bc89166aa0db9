-- `card::clear` meets its contract: refused as it was, else changed. Assumes nothing.
use mathlib.Core.Path.{refl, sym, ◌∙◌}
use lib.ListN.{length}
use Rattle.units.proofs.Chains.{number-of}
use Rattle.tables.specs.Lens.{tables}
use Rattle.tables.specs.Entries.{zeros}
use Rattle.tables.specs.Check.{slot_check}
use Rattle.checking.proofs.CheckWays.{slot-good, named-slot}
use Rattle.card.specs.Calls.{clear_at}
use Rattle.card.proofs.ChangeWays.{refuses, accepts}
use Rattle.card.proofs.clear.Goals as goal

pub returns-then-found-ne0 : goal.returns-then-found-ne0
unfolding clear_at
returns-then-found-ne0 c =
    let a = c.args in
    rw c.verdict.ensures
    (refuses (slot_check a.b (length a.img.now) (tables a.b a.img.now) a.slot.0) (named-slot a.b (length a.img.now) (tables a.b a.img.now) a.slot.0) c.slot_check-found.ensures a.img.now _ c.if-found-ne0.true)

pub change-requires : goal.change-requires
change-requires c =
    let a = c.args in
    let k = slot-good a.b (length a.img.now) (tables a.b a.img.now) a.slot.0 (sym (number-of c.slot_check-found.ensures) ∙ c.if-found-ne0.false) in
    record { img_value = k.0; slot_value = (k.1, refl) }

pub returns : goal.returns
unfolding clear_at zeros
returns c =
    let a = c.args in
    accepts (slot_check a.b (length a.img.now) (tables a.b a.img.now) a.slot.0) (named-slot a.b (length a.img.now) (tables a.b a.img.now) a.slot.0) c.slot_check-found.ensures a.img.now _ c.if-found-ne0.false c.change.ensures
