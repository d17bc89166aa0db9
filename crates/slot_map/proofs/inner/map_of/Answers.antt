-- `slot_map::inner::map_of` meets its contract. The invariant: the first k flags are in the map, and no others. Assumes nothing.
use mathlib.Core.Path.{◌≡◌}
use Prim.Native.Nat.{◌+◌, ◌*◌}
use native.Mathlib.Omega.{arith}
use Rattle.tables.specs.Lens.{Front, copy_in}
use Rattle.slot_map.proofs.Ways.{made-start, made_more, made-end, present-of}
use Rattle.slot_map.proofs.inner.map_of.Goals as goal

pub loop-k-init : goal.loop-k-init
loop-k-init c = let a = c.args in made-start (copy_in a.b Front a.copy.now).array

pub entry_place-at-requires : goal.entry_place-at-requires
entry_place-at-requires c = omega (arith, c.array_in-array.ensures.1, c.requires.0)

pub is_present-requires : goal.is_present-requires
is_present-requires c =
    omega (arith, c.entry_place-at.ensures, c.array_in-array.ensures.0, c.requires.1)

pub loop-k-preserved : goal.loop-k-preserved
loop-k-preserved c =
    let a = c.args in
    let e : c.entry_place-at.result.0 ≡ a.b + 128 * c.loop-k.k = omega (arith, c.entry_place-at.ensures, c.array_in-array.ensures.0) in
    made_more (copy_in a.b Front a.copy.now).array c.loop-k.k (omega arith) (present-of a.b a.copy.now e (omega arith) c.is_present.ensures) c.loop-k.invariant c.with_bit-m.ensures

pub returns : goal.returns
returns c =
    let a = c.args in
    made-end (copy_in a.b Front a.copy.now).array c.loop-k.k (omega arith) c.loop-k.invariant
