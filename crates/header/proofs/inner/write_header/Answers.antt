-- `header::inner::write_header` meets its contract: one law for each way out. Assumes nothing.
use mathlib.Core.Path.{sym, ap, ◌∙◌}
use native.Mathlib.Omega.{arith}
use Rattle.units.proofs.Results.{ends-handed}
use Rattle.units.specs.Answer.{ends}
use Rattle.units.specs.Meanings.{means}
use Rattle.units.proofs.Laws.{size-past, inside-yes}
use Rattle.header.proofs.Ways.{write-size, write-wrong, write-parts, write-over, write-outside, write-stored}
use Rattle.std.specs.Prelude.{not}
use Rattle.header.proofs.inner.write_header.Goals as goal

pub returns-then-not-good_block_size : goal.returns-then-not-good_block_size
returns-then-not-good_block_size c = ends (write-size _ _ _ _ c.good_block_size.ensures (ap not c.if-not-good_block_size.true))

pub returns-then-wrong : goal.returns-then-wrong
returns-then-wrong c = ends (write-wrong _ _ _ _ c.good_block_size.ensures (ap not c.if-not-good_block_size.false) c.if-wrong.true)

pub returns-in_err-parts : goal.returns-in_err-parts
returns-in_err-parts c =
    let summed = c in
    let tested = summed in
    ends-handed _ _ c.from_residual.ensures.1 (write-parts _ _ _ _ tested.good_block_size.ensures (ap not tested.if-not-good_block_size.false) tested.if-wrong.false
    (sym summed.in_err-parts.ensures))

pub returns-in_err-at : goal.returns-in_err-at
returns-in_err-at c =
    let placed = c in
    let summed = placed in
    let tested = summed in
    ends-handed _ _ c.from_residual-in_err-at.ensures.1 (write-over _ _ _ _ tested.good_block_size.ensures (ap not tested.if-not-good_block_size.false) tested.if-wrong.false
    (sym summed.in_ok-parts.ensures)
    (sym placed.in_err-at.ensures))

pub returns-then-not-is_inside : goal.returns-then-not-is_inside
returns-then-not-is_inside c =
    let placed = c in
    let summed = placed in
    let tested = summed in
    ends (write-outside _ _ _ _ tested.good_block_size.ensures (ap not tested.if-not-good_block_size.false) tested.if-wrong.false
    (sym summed.in_ok-parts.ensures)
    (sym placed.in_ok-at.ensures)
    c.is_inside.ensures (ap not c.if-not-is_inside.true))

pub put_block-requires : goal.put_block-requires
put_block-requires c =
    let inside = c in
    let tested = inside in
    let p = inside-yes _ _ _ inside.is_inside.ensures (ap not inside.if-not-is_inside.false) in
    let q = size-past _ tested.good_block_size.ensures (ap not tested.if-not-good_block_size.false) in
    (omega (arith, q.0), p)

pub returns : goal.returns
returns c =
    let inside = c in
    let placed = inside in
    let summed = placed in
    let tested = summed in
    ends (write-stored _ _ _ _ tested.good_block_size.ensures (ap not tested.if-not-good_block_size.false) tested.if-wrong.false
    (sym summed.in_ok-parts.ensures)
    (sym placed.in_ok-at.ensures)
    inside.is_inside.ensures (ap not inside.if-not-is_inside.false) c.with_sums-header.ensures c.put_block.ensures)
