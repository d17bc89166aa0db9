-- `windows_reader::inner::plan_in` meets its contract. Assumes nothing.
use mathlib.Core.Path.{ap, ◌∙◌}
use lib.ListN.{length}
use Rattle.tables.specs.Lens.{side_of}
use Rattle.reader.proofs.Ways.{whole-array}
use Rattle.windows_reader.proofs.Ways.{fits, array_long, plan-refused, plan-listed}
use Rattle.windows_reader.proofs.inner.plan_in.Goals as goal

pub returns-then-found-ne0 : goal.returns-then-found-ne0
returns-then-found-ne0 c =
    let a = c.args in
    plan-refused a.b a.blocks a.head.now a.tail.now c.choose_in-found.ensures.0 c.if-found-ne0.true c.refusal.ensures c.refused_plainly.ensures

pub array_of-requires : goal.array_of-requires
array_of-requires c = let a = c.args in let q = fits a.b a.blocks a.head.now a.tail.now c.choose_in-found.ensures.0 c.if-found-ne0.false in (q.room.most, q.head-long, q.tail-long)

pub listing-requires : goal.listing-requires
listing-requires c =
    let a = c.args in
    let q = fits a.b a.blocks a.head.now a.tail.now c.choose_in-found.ensures.0 c.if-found-ne0.false in
    whole-array _ (ap length c.array_of.ensures.result_value ∙ array_long a.b a.head.now a.tail.now (side_of c.choose_in-found.result.back) q.head-long q.tail-long)

pub returns : goal.returns
returns c =
    let a = c.args in
    let k = c.choose_in-found.ensures in
    let z = c.if-found-ne0.false in
    plan-listed a.b a.blocks a.head.now a.tail.now k.0 z (k.1 z) c.array_of.ensures.result_value c.listing.ensures
