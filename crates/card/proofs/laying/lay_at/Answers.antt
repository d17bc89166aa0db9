-- `card::laying::lay_at` meets its contract. Assumes nothing.
use mathlib.Core.Path.{◌≡◌, ap, ◌∙◌}
use mathlib.Core.List.{List}
use Prim.Native.Nat.{ℕ, ◌+◌}
use native.Mathlib.Omega.{arith}
use lib.ListN.{length}
use lib.Seq.{sets, length-sets}
use Rattle.units.proofs.Lists.{lent_back, length-lent}
use Rattle.tables.specs.Lens.{side_of}
use Rattle.tables.proofs.Good.{room-ok}
use Rattle.card.proofs.LayWays.{length-laid}
use Rattle.card.proofs.laying.lay_at.Goals as goal

pub overflow_add-size : goal.overflow_add-size
overflow_add-size c = omega (arith, (room-ok _ _ c.requires.0).most)

pub overflow_add-at : goal.overflow_add-at
overflow_add-at c = omega (arith, (room-ok _ _ c.requires.0).most, c.requires.1)

pub slice_bounds-lay_copy-end : goal.slice_bounds-lay_copy-end
slice_bounds-lay_copy-end c = c.requires.1

pub lay_copy-requires : goal.lay_copy-requires
lay_copy-requires c = let a = c.args in (c.requires.0, length-lent a.s.now a.place.0 (a.b + 16384) c.requires.1)

pub shape_of-s : goal.shape_of-s
shape_of-s c =
    let as_long : length c.lay_copy.new.copy ≡ c.args.b + 16384 = let a = c.args in
    let r = room-ok _ _ c.requires.0 in
    ap length c.lay_copy.ensures ∙ length-laid a.b a.len (side_of a.back) a.guid (omega (arith, r.least)) in
    let a = c.args in
    ap length (lent_back a.s.now c.lay_copy.new.copy a.place.0 (a.b + 16384) c.requires.1 as_long) ∙ length-sets a.s.now a.place.0 c.lay_copy.new.copy

pub returns : goal.returns
returns c =
    let as_long : length c.lay_copy.new.copy ≡ c.args.b + 16384 = let a = c.args in
    let r = room-ok _ _ c.requires.0 in
    ap length c.lay_copy.ensures ∙ length-laid a.b a.len (side_of a.back) a.guid (omega (arith, r.least)) in
    let a = c.args in
    lent_back a.s.now c.lay_copy.new.copy a.place.0 (a.b + 16384) c.requires.1 as_long
    ∙ ap (λ (y : List ℕ). sets a.s.now a.place.0 y) c.lay_copy.ensures
