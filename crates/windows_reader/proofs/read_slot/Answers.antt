-- `windows_reader::read_slot` meets its contract. Assumes nothing.
use mathlib.Core.Path.{sym, ap, ◌∙◌}
use lib.ListN.{length}
use Rattle.tables.specs.Lens.{side_of}
use Rattle.windows_reader.proofs.Ways.{fits, array_long, read-refused, read-bad, read-given}
use Rattle.windows_reader.proofs.read_slot.Goals as goal

pub returns-then-found-ne0 : goal.returns-then-found-ne0
returns-then-found-ne0 c =
    let a = c.args in
    read-refused a.b a.blocks a.head.now a.tail.now c.choose_in-found.ensures.0 a.slot.0 c.if-found-ne0.true c.refusal.ensures

pub returns-then-bad_slot : goal.returns-then-bad_slot
returns-then-bad_slot c =
    let a = c.args in
    read-bad a.b a.blocks a.head.now a.tail.now c.choose_in-found.ensures.0 c.if-found-ne0.false a.slot.0 c.bad_slot.ensures c.if-bad_slot.true

pub array_of-array-requires : goal.array_of-array-requires
array_of-array-requires c = let a = c.args in let q = fits a.b a.blocks a.head.now a.tail.now c.choose_in-found.ensures.0 c.if-found-ne0.false in (q.room.most, q.head-long, q.tail-long)

pub slot_in-requires : goal.slot_in-requires
slot_in-requires c =
    let a = c.args in
    let q = fits a.b a.blocks a.head.now a.tail.now c.choose_in-found.ensures.0 c.if-found-ne0.false in
    (ap length c.array_of-array.ensures.result_value ∙ array_long a.b a.head.now a.tail.now (side_of c.choose_in-found.result.back) q.head-long q.tail-long, sym c.bad_slot.ensures ∙ c.if-bad_slot.false)

pub returns : goal.returns
returns c =
    let a = c.args in
    let k = c.choose_in-found.ensures in
    let z = c.if-found-ne0.false in
    read-given a.b a.blocks a.head.now a.tail.now k.0 z (k.1 z) c.array_of-array.ensures.result_value a.slot.0 c.bad_slot.ensures c.if-bad_slot.false c.slot_in.ensures
