-- `listing::inner::nth_slot` meets its contract. Assumes nothing.
use mathlib.Core.Path.{ap, ◌∙◌}
use mathlib.Core.List.{List}
use Prim.Native.Nat.{ℕ}
use native.Mathlib.Omega.{arith}
use lib.ListN.{take, drop}
use Rattle.units.specs.Bytes.{part}
use Rattle.units.proofs.Lists.{length-lent, lent-part}
use Rattle.partition.specs.Array.{present_from}
use Rattle.tables.specs.Lens.{tables_at}
use Rattle.tables.proofs.Good.{room-ok}
use Rattle.listing.specs.Listing.{present_slots}
use Rattle.listing.proofs.inner.nth_slot.Goals as goal

pub front_array-array-requires : goal.front_array-array-requires
front_array-array-requires c = (room-ok _ _ c.requires).most

pub overflow_add-at : goal.overflow_add-at
overflow_add-at c = let r = room-ok _ _ c.requires in omega (arith, c.front_array-array.ensures, r.most)

pub slice_bounds-nth_in-end : goal.slice_bounds-nth_in-end
slice_bounds-nth_in-end c = let r = room-ok _ _ c.requires in omega (arith, c.front_array-array.ensures, r.low, r.seam, r.top)

pub nth_in-requires : goal.nth_in-requires
nth_in-requires c =
    let r = room-ok _ _ c.requires in
    length-lent c.args.img.now c.front_array-array.result.0 16384 (omega (arith, c.front_array-array.ensures, r.low, r.seam, r.top))

pub returns : goal.returns
unfolding present_slots tables_at
returns c =
    let a = c.args in
    c.nth_in.ensures
    ∙ ap (λ (l : List ℕ). take 1 (drop a.k (present_from l 0 0 128))) (lent-part a.img.now c.front_array-array.result.0 16384 ∙ ap (λ (i : ℕ). part a.img.now i 16384) c.front_array-array.ensures)
