-- `windows_reader::next_used` meets its contract. Assumes nothing.
use mathlib.Core.Path.{ap, ◌∙◌}
use Prim.Native.Nat.{ℕ, ◌-◌}
use lib.ListN.{length, take}
use Rattle.partition.specs.Array.{present_from}
use Rattle.tables.specs.Lens.{Tables, side_of}
use Rattle.reader.specs.Reader.{taken_array}
use Rattle.reader.proofs.Ways.{whole-array}
use Rattle.windows_reader.proofs.Ways.{fits, array_long, refuses, next-given}
use Rattle.windows_reader.proofs.next_used.Goals as goal

pub returns-then-found-ne0 : goal.returns-then-found-ne0
returns-then-found-ne0 c =
    let a = c.args in
    refuses a.b a.blocks a.head.now a.tail.now c.choose_in-found.ensures.0 (λ (n : ℕ) (t : Tables). take 1 (present_from (taken_array a.b n t) 0 a.after.0 (128 - a.after.0))) c.if-found-ne0.true c.refusal.ensures

pub array_of-array-requires : goal.array_of-array-requires
array_of-array-requires c = let a = c.args in let q = fits a.b a.blocks a.head.now a.tail.now c.choose_in-found.ensures.0 c.if-found-ne0.false in (q.room.most, q.head-long, q.tail-long)

pub next_present-requires : goal.next_present-requires
next_present-requires c =
    let a = c.args in
    let q = fits a.b a.blocks a.head.now a.tail.now c.choose_in-found.ensures.0 c.if-found-ne0.false in
    whole-array _ (ap length c.array_of-array.ensures.result_value ∙ array_long a.b a.head.now a.tail.now (side_of c.choose_in-found.result.back) q.head-long q.tail-long)

pub returns : goal.returns
returns c =
    let a = c.args in
    let k = c.choose_in-found.ensures in
    let z = c.if-found-ne0.false in
    next-given a.b a.blocks a.head.now a.tail.now k.0 z (k.1 z) c.array_of-array.ensures.result_value a.after.0 c.next_present.ensures
