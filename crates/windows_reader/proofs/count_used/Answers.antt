-- `windows_reader::count_used` meets its contract. Assumes nothing.
use mathlib.Core.Path.{ap, ◌∙◌}
use mathlib.Core.List.{List}
use Prim.Native.Nat.{ℕ}
use lib.ListN.{length}
use Rattle.partition.specs.Array.{present_from}
use Rattle.tables.specs.Lens.{Tables, side_of}
use Rattle.reader.specs.Reader.{taken_array}
use Rattle.reader.proofs.Ways.{whole-array}
use Rattle.windows_reader.proofs.Ways.{fits, array_long, refuses, accepts, taken}
use Rattle.windows_reader.proofs.count_used.Goals as goal

abbrev counts : ℕ → ℕ → Tables → ℕ
counts B n t = length (present_from (taken_array B n t) 0 0 128)

pub returns-then-found-ne0 : goal.returns-then-found-ne0
returns-then-found-ne0 c = let a = c.args in refuses a.b a.blocks a.head.now a.tail.now c.choose_in-found.ensures.0 (counts a.b) c.if-found-ne0.true c.refusal.ensures

pub array_of-array-requires : goal.array_of-array-requires
array_of-array-requires c = let a = c.args in let q = fits a.b a.blocks a.head.now a.tail.now c.choose_in-found.ensures.0 c.if-found-ne0.false in (q.room.most, q.head-long, q.tail-long)

pub count_present-requires : goal.count_present-requires
count_present-requires c =
    let a = c.args in
    let q = fits a.b a.blocks a.head.now a.tail.now c.choose_in-found.ensures.0 c.if-found-ne0.false in
    whole-array _ (ap length c.array_of-array.ensures.result_value ∙ array_long a.b a.head.now a.tail.now (side_of c.choose_in-found.result.back) q.head-long q.tail-long)

pub returns : goal.returns
returns c =
    let a = c.args in
    let k = c.choose_in-found.ensures in
    let z = c.if-found-ne0.false in
    accepts a.b a.blocks a.head.now a.tail.now k.0 z (counts a.b)
    (c.count_present.ensures ∙ ap (λ (l : List ℕ). length (present_from l 0 0 128)) (c.array_of-array.ensures.result_value ∙ taken a.b a.blocks a.head.now a.tail.now k.0 z (k.1 z)))
