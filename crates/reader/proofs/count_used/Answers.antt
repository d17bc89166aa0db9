-- `reader::count_used` meets its contract. Assumes nothing.
use mathlib.Core.Path.{ap, ◌∙◌}
use mathlib.Core.List.{List}
use Prim.Native.Nat.{ℕ}
use native.Mathlib.Omega.{arith}
use lib.ListN.{length}
use Rattle.units.proofs.Lists.{length-lent}
use Rattle.partition.specs.Array.{present_from}
use Rattle.reader.proofs.Ways.{refuses, accepts, room, lent-array, whole-array}
use Rattle.reader.proofs.count_used.Goals as goal

pub returns-then-found-ne0 : goal.returns-then-found-ne0
returns-then-found-ne0 c =
    let a = c.args in
    refuses a.b a.img.now c.choose-found.ensures.0 _ c.if-found-ne0.true c.refusal.ensures

pub array_byte_place-at-requires : goal.array_byte_place-at-requires
array_byte_place-at-requires c = let a = c.args in room a.b a.img.now c.choose-found.ensures.0 c.if-found-ne0.false

pub slice_bounds-count_present-end : goal.slice_bounds-count_present-end
slice_bounds-count_present-end c = omega (arith, c.array_byte_place-at.ensures.1)

pub count_present-requires : goal.count_present-requires
count_present-requires c = let a = c.args in whole-array _ (length-lent a.img.now c.array_byte_place-at.result.0 16384 c.array_byte_place-at.ensures.1)

pub returns : goal.returns
returns c =
    let a = c.args in
    let z = c.if-found-ne0.false in
    accepts a.b a.img.now c.choose-found.ensures.0 z
    (c.count_present.ensures ∙ ap (λ (l : List ℕ). length (present_from l 0 0 128)) (lent-array a.b a.img.now (c.choose-found.ensures.1 z) c.array_byte_place-at.ensures.0))
