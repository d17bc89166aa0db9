-- `header::inner::parts_sum` meets its contract: the place of the first block, then the array inside the image. Assumes nothing.
use mathlib.Core.Path.{sym, ap, ◌∙◌}
use native.Mathlib.Omega.{arith}
use Rattle.units.specs.Meanings.{means}
use Rattle.units.proofs.Laws.{product-32, inside-yes}
use Rattle.units.proofs.Results.{handed}
use Rattle.header.proofs.Laws.{fit-header-of}
use Rattle.header.proofs.Ways.{parts-refused, parts_none, parts-outside, parts-inside}
use Rattle.std.specs.Prelude.{not}
use Rattle.header.proofs.inner.parts_sum.Goals as goal

pub overflow_cast-n-2 : goal.overflow_cast-n-2
overflow_cast-n-2 c = let s = c in omega (arith, (fit-header-of s.args.h _ s.well_formed.1.0).each)

pub overflow_mul-n : goal.overflow_mul-n
overflow_mul-n c =
    let s = c in
    let f = fit-header-of s.args.h _ s.well_formed.1.0 in
    record { fits = product-32 _ _ f.count f.each }

pub returns-then-n-eq0 : goal.returns-then-n-eq0
returns-then-n-eq0 c =
    let placed = c in
    parts_none _ _ _ (sym placed.in_ok-at.ensures) c.if-n-eq0.true

pub returns-then-not-is_inside : goal.returns-then-not-is_inside
returns-then-not-is_inside c =
    let placed = c in
    parts-outside _ _ _ (sym placed.in_ok-at.ensures)
    c.if-n-eq0.false c.is_inside.ensures (ap not c.if-not-is_inside.true)

pub overflow_add-a : goal.overflow_add-a
overflow_add-a c = let p = inside-yes _ _ _ c.is_inside.ensures (ap not c.if-not-is_inside.false) in omega arith

pub slice_bounds-sum-end : goal.slice_bounds-sum-end
slice_bounds-sum-end c = let p = inside-yes _ _ _ c.is_inside.ensures (ap not c.if-not-is_inside.false) in omega arith

pub returns-in_err-at : goal.returns-in_err-at
returns-in_err-at c =
    let placed = c in
    handed _ _ placed.from_residual.ensures.1 ∙ parts-refused _ _ _ (sym placed.in_err-at.ensures)

pub returns : goal.returns
returns c =
    let inside = c in
    let placed = inside in
    parts-inside _ _ _ (sym placed.in_ok-at.ensures)
    inside.if-n-eq0.false inside.is_inside.ensures (ap not inside.if-not-is_inside.false) c.sum.ensures
