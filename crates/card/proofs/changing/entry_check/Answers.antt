-- `card::changing::entry_check` meets its contract: the record's tests, then those of the other slots, and then its flags. Assumes nothing.
use mathlib.Core.Path.{sym, ◌∙◌}
use Rattle.units.proofs.Chains.{number-of}
use Rattle.tables.proofs.Good.{room-ok}
use Rattle.card.proofs.ChangeWays.{record-good, entry-wrong, entry-slots}
use Rattle.card.proofs.changing.entry_check.Goals as goal

pub record_check-wrong-requires : goal.record_check-wrong-requires
record_check-wrong-requires c = (c.requires.0, c.requires.2)

pub returns-then-wrong-ne0 : goal.returns-then-wrong-ne0
returns-then-wrong-ne0 c = entry-wrong _ _ _ _ _ _ c.record_check-wrong.ensures c.if-wrong-ne0.true

pub overlap_check-overlap-requires : goal.overlap_check-overlap-requires
overlap_check-overlap-requires c =
    let a = c.args in
    let t = record-good a.b a.len a.slot.0 a.e.now (sym (number-of c.record_check-wrong.ensures) ∙ c.if-wrong-ne0.false) in
    ((room-ok _ _ c.requires.0).most, c.requires.1, c.requires.2, t.1)

pub twin_check-twin-requires : goal.twin_check-twin-requires
twin_check-twin-requires c = ((room-ok _ _ c.requires.0).most, c.requires.1, c.requires.2)

pub returns : goal.returns
returns c =
    entry-slots _ _ _ _ _ _ c.record_check-wrong.ensures c.if-wrong-ne0.false c.overlap_check-overlap.ensures c.twin_check-twin.ensures c.flag_check.ensures c.or_else.ensures c.or_else-2.ensures
